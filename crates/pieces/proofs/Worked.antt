-- The worked cases of request l): the definitions answer each as the document does. Assumes nothing.
use Rattle.rules.proofs.Prelude.{◌≡◌, refl, map, first, each, ◌or_else◌, ◌otherwise◌}
use Rattle.width.specs.Width.{le}
use Rattle.width.specs.Limits.{u32_max}
use Rattle.walk.specs.Walk.{up_to}
use Rattle.leads.specs.Table.{lead_of}
use Rattle.chars.specs.Rfc3629.{tails_of, char, begins, text_up_to}
use Rattle.utf8.specs.Utf8.{is_cut}
use Rattle.names.specs.Order.{compare_of, below}
use Rattle.dictionary.specs.Limits.{limit}
use Rattle.dictionary.specs.Dictionary.{version, sorted, width, count, offset, start, end, region, entry_rules, checks_within, verdict_within}
use Rattle.dictionary.specs.Wanted.{wanted}
use Rattle.pieces.specs.Pieces.{room, judged, answer}
use Rattle.pieces.specs.Feed.{fed, store_after}
use Rattle.pieces.specs.Worked.{Case, Told, tell, cases}

pub worked : map (λ (c : Case × Told). tell c.0) cases ≡ map (λ (c : Case × Told). c.1) cases
unfolding le u32_max up_to lead_of tails_of char begins text_up_to is_cut compare_of below first each ◌or_else◌ ◌otherwise◌ limit
    version sorted width count offset start end region entry_rules checks_within verdict_within wanted room judged answer fed store_after
worked = refl
