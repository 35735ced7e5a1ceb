use Rattle.std.proofs.Common.{ℕ, List, subst, ◌∙◌}
use Rattle.saved_state.specs.Saved.{Adds, spelled_bytes}
use Rattle.raw_image.specs.Image.{file_of}
use Rattle.drive_model.proofs.media.save_image.Goals as goal

pub returns-in-Ok : goal.returns-in-Ok
returns-in-Ok c =
    let P : List ℕ → Type 0 = λ bytes. Adds (spelled_bytes bytes) c.args.to.now c.save_bytes.new.to in
    subst P (c.deref.ensures.value ∙ c.in-Ok.ensures.spelled) c.save_bytes.ensures

pub returns-in-Err : goal.returns-in-Err
returns-in-Err c = c.lose.ensures (spelled_bytes (file_of c.args.medium.now))
