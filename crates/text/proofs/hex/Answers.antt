-- `text::hex` meets its contract: each answer is a reading of the definition, in its order. Assumes nothing.
use Rattle.std.proofs.Common.{refl, ap, ◌∙◌, length, arith}
use Rattle.std.specs.Prelude.{Ok}
use Rattle.text.specs.Text.{pairs}
use Rattle.text.proofs.Laws.{no_way, pairs_length, at_start, hex_dash, hex_odd, hex_long, hex_bad, hex_good}
use Rattle.text.proofs.hex.Goals as goal

pub returns-then-same : goal.returns-then-same
returns-then-same c =
    rw (hex_dash _ _ (c.same.ensures.0 c.if-same.true)) (record { is = refl; room_is = refl; fits = omega arith })

pub returns-then-text-ne0 : goal.returns-then-text-ne0
returns-then-text-ne0 c =
    rw (hex_odd _ _ (no_way c.if-same.false c.same.ensures.1) c.if-text-ne0.true) (record { is = refl; room_is = refl; fits = tt })

pub returns-then-out-text : goal.returns-then-out-text
returns-then-out-text c =
    rw (hex_long _ _ (no_way c.if-same.false c.same.ensures.1) c.if-text-ne0.false c.if-out-text.true)
    (record { is = refl; room_is = refl; fits = tt })

pub returns-then-run-text : goal.returns-then-run-text
returns-then-run-text c =
    rw (hex_bad _ _ (no_way c.if-same.false c.same.ensures.1) c.if-text-ne0.false c.if-out-text.false (omega arith))
    (record { is = refl; room_is = refl; fits = tt })

pub returns : goal.returns
returns c =
    let text = c.args.text.now in
    let room = c.args.out.now in
    let d = c.decode.ensures in
    rw (hex_good text (length room) (no_way c.if-same.false c.same.ensures.1) c.if-text-ne0.false c.if-out-text.false (omega arith))
    (record {
      is = ap Ok d.value;
      room_is = d.out_after ∙ at_start (pairs text) room (omega (arith, pairs_length text));
      fits = omega (arith, pairs_length text);
    })
