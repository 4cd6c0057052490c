-- The worked cases of request j): the definitions answer each as the document does. Assumes nothing.
use Rattle.rules.proofs.Prelude.{◌≡◌, refl, map, first, each, ◌or_else◌, ◌otherwise◌}
use Rattle.width.specs.Width.{bytes_of}
use Rattle.put.specs.Numbers.{numbers}
use Rattle.walk.specs.Walk.{up_to}
use Rattle.leads.specs.Table.{lead_of}
use Rattle.chars.specs.Rfc3629.{tails_of, char, text_up_to}
use Rattle.names.specs.Order.{compare_of}
use Rattle.dictionary.specs.Limits.{limit}
use Rattle.run.specs.Run.{begin, name, end_rules}
use Rattle.given.specs.Given as goal
use Rattle.sets.specs.Sets.{insert, collect, total}
use Rattle.source.specs.Names.{name_of, count_of}
use Rattle.pick.specs.Pick.{list_of}
use Rattle.lay.specs.Bytes.{width_of, offsets, joined}
use Rattle.fill.specs.Bytes.{width_for, dictionary, size}
use Rattle.write.specs.Writing.{size_checks, checks, written, room_after}
use Rattle.write.specs.Worked.{Case, Told, tell, cases}

pub worked : map (λ (c : Case × Told). tell c.0) cases ≡ map (λ (c : Case × Told). c.1) cases
unfolding bytes_of numbers up_to lead_of tails_of char text_up_to compare_of first each ◌or_else◌ ◌otherwise◌ limit begin name end_rules
    goal.name_rules goal.checks insert collect total name_of count_of list_of width_of width_for offsets joined dictionary size
    size_checks checks written room_after
worked = refl
