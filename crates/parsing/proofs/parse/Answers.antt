-- `parsing::parse` meets its contract: the checks in their order, each refusal leaving both buffers, and then the steps. Assumes nothing.
use Rattle.std.proofs.Common.{sym, ◌∙◌}
use Rattle.parsing.proofs.Laws.{of_whole, answer_text, answer_dot, answer_wrong, answer_room, answer_good, room_for, kept_so, passed_so, written_so}
use Rattle.parsing.proofs.parse.Goals as goal

pub returns-then-not-is_text : goal.returns-then-not-is_text
returns-then-not-is_text c =
    let a = c.args in
    let told = of_whole a.path.now _ c.is_text.ensures in
    kept_so a.path.now a.names.now a.words.now _ (answer_text _ _ _ (told.if_not c.if-not-is_text.true))

pub returns-then-starts_with_dot : goal.returns-then-starts_with_dot
returns-then-starts_with_dot c =
    let a = c.args in
    let text = (of_whole a.path.now _ c.is_text.ensures).if_so c.if-not-is_text.false in
    let dot = sym c.starts_with_dot.ensures ∙ c.if-starts_with_dot.true in
    kept_so a.path.now a.names.now a.words.now _ (answer_dot _ _ _ text dot)

pub returns-in_err-parsed : goal.returns-in_err-parsed
returns-in_err-parsed c =
    let a = c.args in
    let text = (of_whole a.path.now _ c.is_text.ensures).if_so c.if-not-is_text.false in
    let dot = sym c.starts_with_dot.ensures ∙ c.if-starts_with_dot.false in
    passed_so a.path.now a.names.now a.words.now _ _ c.from_residual.ensures (answer_wrong _ _ _ text dot _ c.in_err-parsed.ensures.0)

pub returns-then-no_room : goal.returns-then-no_room
returns-then-no_room c =
    let a = c.args in
    let text = (of_whole a.path.now _ c.is_text.ensures).if_so c.if-not-is_text.false in
    let dot = sym c.starts_with_dot.ensures ∙ c.if-starts_with_dot.false in
    let lacks = sym c.no_room.ensures ∙ c.if-no_room.true in
    kept_so a.path.now a.names.now a.words.now _ (answer_room _ _ _ text dot _ _ c.in_ok-parsed.ensures.0 lacks)

pub write_steps-requires : goal.write_steps-requires
write_steps-requires c =
    let a = c.args in
    room_for a.path.now a.names.now a.words.now _ _ c.in_ok-parsed.ensures.0 (sym c.no_room.ensures ∙ c.if-no_room.false)

pub returns : goal.returns
returns c =
    let a = c.args in
    let text = (of_whole a.path.now _ c.is_text.ensures).if_so c.if-not-is_text.false in
    let dot = sym c.starts_with_dot.ensures ∙ c.if-starts_with_dot.false in
    let good = c.in_ok-parsed.ensures.0 in
    let room = sym c.no_room.ensures ∙ c.if-no_room.false in
    let is = answer_good a.path.now a.names.now a.words.now text dot _ _ good room in
    let fits = room_for a.path.now a.names.now a.words.now _ _ good room in
    written_so _ _ _ _ _ _ fits good is c.write_steps.ensures.names_after c.write_steps.ensures.words_after
