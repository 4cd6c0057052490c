-- No word of any answer is too large for its four bytes, so that the strip of each call carries its answer whole: as its body's crate has it.
-- Assumes nothing.
pub use Rattle.strip.proofs.Carries.{Fits, first_is, carried}
pub use Rattle.dictionary_calls.proofs.Carries.{dictionary_fits, name_fits, dictionary_carried, name_carried}
pub use Rattle.object_calls.proofs.Carries.{layer_fits, lookup_fits, layer_carried, lookup_carried}
pub use Rattle.many_calls.proofs.Carries.{list_fits, all_fits, list_carried, all_carried}
pub use Rattle.value_call.proofs.Carries.{value_fits, value_carried}
pub use Rattle.tree_call.proofs.Carries.{Small, refusal_small, tree_fits, tree_carried}
pub use Rattle.path_call.proofs.Carries.{path_code, walk_fits, answer_fits, path_carried}
pub use Rattle.write_call.proofs.Carries.{code_small as write_small, write_fits, write_carried}
pub use Rattle.write_object_call.proofs.Carries.{code_small as write_object_small, write_object_fits, write_object_carried}
