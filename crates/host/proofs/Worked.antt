-- The worked cases of documents 01 and 02: the definitions answer each as the document does. Assumes nothing.
use Rattle.rules.proofs.Prelude.{◌≡◌, refl, map, first, each, ◌or_else◌, ◌otherwise◌}
use Rattle.width.specs.Width.{le, bytes_of}
use Rattle.walk.specs.Walk.{up_to}
use Rattle.leads.specs.Table.{lead_of}
use Rattle.chars.specs.Rfc3629.{tails_of, char, text_up_to, begins}
use Rattle.utf8.specs.Utf8.{is_cut}
use Rattle.names.specs.Order.{compare_of, below}
use Rattle.names.specs.Search.{same, seek}
use Rattle.width.specs.Limits.{u32_max}
use Rattle.dictionary.specs.Limits.{limit}
use Rattle.dictionary.specs.Dictionary as dictionary
use Rattle.layer.specs.Object as object
use Rattle.list.specs.List as list
use Rattle.leaf.specs.Leaf as leaf
use Rattle.nodes.specs.Tree as tree
use Rattle.nodes.specs.Tree.{◌and_then◌}
use Rattle.layout.specs.Layout as layout
use Rattle.encoding.specs.Encoding as encoding
use Rattle.lengths.specs.Lengths as lengths
use lib.Ieee.{of_bits, to_bits, nan_bits, size}
use Rattle.number.specs.Signed.{signed, extended}
use Rattle.value.specs.Reading as value
use Rattle.run.specs.Run as run
use Rattle.lookup.specs.ByName as by_name
use Rattle.many.specs.Many as many
use Rattle.listing.specs.Words as listing
use Rattle.strip.specs.Shapes.{bytes_of_words}
use Rattle.lichenhusk.specs.Strip.{strip_after}
use Rattle.host.specs.Worked.{Asked, Told, tell, starred}

pub worked : map (λ (c : Asked × Told). tell c.0) starred ≡ map (λ (c : Asked × Told). c.1) starred
unfolding le bytes_of up_to lead_of tails_of char text_up_to begins is_cut compare_of below same seek
    first each ◌or_else◌ ◌otherwise◌ limit u32_max
    dictionary.version dictionary.sorted dictionary.width dictionary.count dictionary.offset dictionary.start dictionary.end
    dictionary.region dictionary.name dictionary.entry_rules dictionary.checks_within dictionary.verdict_within
    object.basic_type object.offset_width object.id_width object.count_width object.count object.ids_start object.id object.offsets_start
    object.offset object.start object.end object.field_name object.name_rules object.offset_rules object.checks_within object.verdict_within
    by_name.lookup_within run.begin run.name run.end_rules run.checks many.row_within many.many_checks_within many.lookups_within many.rows_after_within
    layout.count layout.offsets_start layout.offset layout.start layout.end encoding.count_width encoding.object_widths encoding.list_widths encoding.header_of
    lengths.payload lengths.holds_length lengths.held lengths.bytes_by lengths.length_rules lengths.case_of lengths.length_by lengths.own_length
    signed extended of_bits to_bits nan_bits size value.single value.double value.payload_start value.primitive value.read_by value.measured value.reading
    list.element_rules list.checks leaf.length_found leaf.is_string leaf.text_start leaf.text leaf.text_rules leaf.leaf ◌and_then◌ tree.here tree.from tree.in_order
    tree.child tree.children tree.layered tree.object_by tree.list_by tree.value_by tree.tree tree.levels tree.checks_at tree.verdict_at
    listing.child listing.span listing.span_rules listing.row listing.list_checks_within listing.listed_within listing.words_after_within
    bytes_of_words strip_after
worked = refl
