-- `strip::write` meets its contract: six words are set, one after another. Assumes nothing.
use Rattle.rules.proofs.Prelude.{refl, ◌∙◌, sets-eq}
use Rattle.width.specs.Width.{bytes_of}
use Rattle.strip.specs.Shapes.{bytes_of_words}
use Rattle.strip.specs.Steps.{list_of}
use Rattle.strip.proofs.write.Goals as goal

pub returns : goal.returns
unfolding bytes_of bytes_of_words
returns c =
    record {
      returns = refl;
      leaves =
          c.pack_u32-6.ensures
          ∙ rw (c.pack_u32-5.ensures, c.pack_u32-4.ensures, c.pack_u32-3.ensures, c.pack_u32-2.ensures, c.pack_u32.ensures)
          (sets-eq (bytes_of_words (list_of c.args.w)) c.args.strip.now 0 c.requires);
    }
