-- What each call of the host promises, once for its `ensures` and for proofs/Pinned.antt: as its body's crate has it. Assumes nothing.
pub use Rattle.strip.specs.Promises.{Left, Filled}
pub use Rattle.dictionary_calls.specs.Promises.{DictionaryPromise, NamePromise, EmptyPromise}
pub use Rattle.object_calls.specs.Promises.{LayerPromise, LookupPromise}
pub use Rattle.many_calls.specs.Promises.{ListPromise, AllPromise}
pub use Rattle.value_call.specs.Promises.{ValuePromise}
pub use Rattle.tree_call.specs.Promises.{TreePromise}
pub use Rattle.path_call.specs.Promises.{PathPromise}
pub use Rattle.write_call.specs.Promises.{WritePromise}
pub use Rattle.write_object_call.specs.Promises.{WriteObjectPromise}
pub use Rattle.pieces_call.specs.Promises.{BeginPromise, FeedPromise}
