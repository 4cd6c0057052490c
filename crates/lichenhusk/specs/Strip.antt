-- The words of each call, and the strip that carries them through C: each as its body's crate has it. Assumes nothing.
pub use Rattle.dictionary_calls.specs.Promises.{verdict_words, name_at_words}
pub use Rattle.object_calls.specs.Promises.{layer_words, lookup_words}
pub use Rattle.many_calls.specs.Promises.{list_words, all_words}
pub use Rattle.value_call.specs.Promises.{value_words}
pub use Rattle.tree_call.specs.Promises.{tree_words}
pub use Rattle.path_call.specs.Promises.{path_words}
pub use Rattle.write_call.specs.Promises.{write_words}
pub use Rattle.write_object_call.specs.Promises.{write_object_words}
pub use Rattle.pieces_call.specs.Promises.{code_in, wants_more, held_in, begin_words, feed_words}
unfoldable pub use Rattle.strip.specs.Strip.{returned, strip_after, filled_after}
