-- The worked cases of request i): the definitions answer each as the document does. Assumes nothing.
use Rattle.rules.proofs.Prelude.{◌≡◌, refl, map, first, each, ◌or_else◌, ◌otherwise◌}
use Rattle.width.specs.Width.{le}
use Rattle.walk.specs.Walk.{up_to}
use Rattle.leads.specs.Table.{lead_of}
use Rattle.chars.specs.Rfc3629.{tails_of, char, text_up_to, begins}
use Rattle.utf8.specs.Utf8.{is_cut}
use Rattle.names.specs.Order.{compare_of, below}
use Rattle.names.specs.Search.{same, seek}
use Rattle.width.specs.Limits.{u32_max}
use Rattle.dictionary.specs.Limits.{limit}
use Rattle.dictionary.specs.Dictionary as dictionary
use Rattle.layer.specs.Object as object
use Rattle.list.specs.List as list
use Rattle.layout.specs.Layout as layout
use Rattle.encoding.specs.Encoding as encoding
use Rattle.lookup.specs.ByName as by_name
use Rattle.elements.specs.Element as elements
use Rattle.brackets.specs.Brackets as brackets
use Rattle.steps.specs.Path as steps
use Rattle.writing.specs.Written as written
use Rattle.parsing.specs.Parsing as parsing
use Rattle.strides.specs.Stride.{stride}
use Rattle.path.specs.Path as path
use Rattle.host.specs.Worked.{Told}
use Rattle.host.specs.WorkedPaths.{Asked, tell, walked}

pub worked : map (λ (c : Asked × Told). tell c.0) walked ≡ map (λ (c : Asked × Told). c.1) walked
unfolding le up_to lead_of tails_of char text_up_to begins is_cut compare_of below same seek
    first each ◌or_else◌ ◌otherwise◌ limit u32_max
    dictionary.version dictionary.sorted dictionary.width dictionary.count dictionary.offset dictionary.start dictionary.end
    dictionary.region dictionary.name dictionary.entry_rules dictionary.checks_within
    object.basic_type object.offset_width object.id_width object.count_width object.count object.ids_start object.id object.offsets_start
    object.offset object.start object.end object.field_name object.name_rules object.offset_rules object.checks_within by_name.lookup_within
    layout.count layout.offsets_start layout.offset layout.start layout.end encoding.count_width encoding.list_widths list.element_rules list.checks
    elements.checks elements.element stride path.walk path.asked path.by_path
    steps.plain steps.bracket steps.dotted steps.next steps.parse parsing.leading_dot parsing.steps_of parsing.answer
    written.weight written.names_of written.words_of written.total
    brackets.closes brackets.content brackets.first_or brackets.last_or brackets.digits brackets.unsigned brackets.some_digits brackets.number
worked = refl
