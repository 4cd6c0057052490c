-- `path::get` meets its contract: the path's refusal, or the walk by the steps that it left in the buffers. Assumes nothing.
use Rattle.std.proofs.Common.{sym, ◌∙◌, rules}
use Rattle.path.proofs.Laws.{filled, by_steps, by_refusal}
use Rattle.path.proofs.get.Goals as goal

pub returns-in_err-parsed : goal.returns-in_err-parsed
returns-in_err-parsed c =
    let a = c.args in
    let p = c.in_err-parsed.ensures in
    let is = by_refusal a.dict.now a.value.now a.path.now a.names.now a.words.now _ p.says in
    record { says = rw (← is) (search rules); names_left = p.names_left; words_left = p.words_left }

pub ask-requires : goal.ask-requires
ask-requires c = let p = c.in_ok-parsed.ensures in filled _ _ _ _ _ _ _ p.says p.names_left p.words_left

pub returns-in_err-ask : goal.returns-in_err-ask
returns-in_err-ask c =
    let p = c.in_ok-parsed.ensures in
    let is = c.in_err-ask.ensures ∙ sym (by_steps _ _ _ _ _ _ _ p.says p.names_left p.words_left _ _) in
    record { says = rw (← is) (search rules); names_left = p.names_left; words_left = p.words_left }

pub returns : goal.returns
returns c =
    let p = c.in_ok-parsed.ensures in
    record {
      says = c.in_ok-ask.ensures ∙ sym (by_steps _ _ _ _ _ _ _ p.says p.names_left p.words_left _ _);
      names_left = p.names_left;
      words_left = p.words_left;
    }
