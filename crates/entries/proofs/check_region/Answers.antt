-- `entries::check_region` meets its contract: the text's table, then the entries'. Assumes nothing.
use Rattle.std.specs.Prelude.{Result, ⊤}
use Rattle.std.proofs.lemmas.Result.{err_from_is_err_and}
use Rattle.rules.proofs.Prelude.{◌≡◌, refl, sym, ap, ◌∙◌, List, ℕ, first, stops, goes}
use Rattle.part.specs.Part.{part}
use Rattle.utf8.specs.declared.Flaw.{Flaw}
use Rattle.utf8.specs.Utf8.{verdict}
use Rattle.dictionary.specs.declared.Header.{Header}
use Rattle.dictionary.specs.Dictionary.{region, region_rules}
use Rattle.dictionary.specs.Steps.{HeaderOf}
use Rattle.dictionary.proofs.Laws.{region_is, by_region, by_text, found_in, text_passed}
use Rattle.entries.proofs.check_region.Goals as goal

-- the region's table says what the text's check answered
text : (d : List ℕ) (h : Header) → HeaderOf d h → {v : Result ⊤ Flaw} → v ≡ verdict (part d h.start h.end) → first (region_rules (region d)) ≡ found_in v
text d h o e = by_text (region d) ∙ ap found_in (sym (e ∙ ap verdict (region_is d _ _ o.start_is o.end_is)))

pub returns-in_err-check : goal.returns-in_err-check
returns-in_err-check c =
    let p = err_from_is_err_and c.from_residual.result c.from_residual.ensures.1 in
    rw (p.1, p.2) (sym (by_region _ c.requires.passes (text _ c.args.h c.requires c.in_err-check.ensures) ∙ stops _ refl))

pub check_entries-requires : goal.check_entries-requires
check_entries-requires c = (
  c.requires,
  region_is _ _ _ c.requires.start_is c.requires.end_is,
  text_passed _ (text _ c.args.h c.requires c.in_ok-check.ensures),
)

pub returns : goal.returns
returns c =
    c.check_entries.ensures
    ∙ sym (by_region _ c.requires.passes (text _ c.args.h c.requires c.in_ok-check.ensures) ∙ goes _ refl)
