-- The worked cases of request k): the definitions answer each as the document does. Assumes nothing.
use Rattle.rules.proofs.Prelude.{◌≡◌, refl, map, first, each, ◌or_else◌, ◌otherwise◌}
use Rattle.width.specs.Width.{le, bytes_of}
use Rattle.width.specs.Limits.{u32_max}
use Rattle.put.specs.Numbers.{numbers}
use Rattle.walk.specs.Walk.{up_to}
use Rattle.leads.specs.Table.{lead_of}
use Rattle.chars.specs.Rfc3629.{tails_of, char, text_up_to, begins}
use Rattle.utf8.specs.Utf8.{is_cut}
use Rattle.names.specs.Order.{compare_of, below}
use Rattle.names.specs.Search.{same, seek}
use Rattle.dictionary.specs.Limits.{limit}
use Rattle.dictionary.specs.Dictionary as dictionary
use Rattle.sets.specs.Sets.{insert, collect, total}
use Rattle.source.specs.Pairs.{child}
use Rattle.sort.specs.Steps.{labels}
use Rattle.lay.specs.Items.{number_of, numbers_for}
use Rattle.lay.specs.Bytes.{width_of, offsets, joined}
use Rattle.pairs.specs.Checks.{pair_name, id_rules, id_checks, range_rules, range_checks, empty_rules, empty_checks, largest}
use Rattle.doubles.specs.Doubles as doubles
use Rattle.builder.specs.Bytes as builder
use Rattle.write_object.specs.Writing.{size_checks, checks, written, room_after}
use Rattle.write_object.specs.Worked.{Case, Told, tell, cases}

pub worked : map (λ (c : Case × Told). tell c.0) cases ≡ map (λ (c : Case × Told). c.1) cases
unfolding le bytes_of u32_max numbers up_to lead_of tails_of char text_up_to begins is_cut compare_of below same seek first each ◌or_else◌ ◌otherwise◌ limit
    dictionary.version dictionary.sorted dictionary.width dictionary.count dictionary.offset dictionary.start dictionary.end
    dictionary.region dictionary.name dictionary.entry_rules dictionary.checks_within
    insert collect total child labels number_of numbers_for width_of offsets joined
    pair_name id_rules id_checks range_rules range_checks empty_rules empty_checks largest doubles.seen doubles.double_rules doubles.checks
    builder.fields builder.ids_of builder.children_of builder.count_width builder.lead builder.start_for builder.layout builder.id_width builder.offset_width
    builder.children builder.object builder.start builder.size
    size_checks checks written room_after
worked = refl
