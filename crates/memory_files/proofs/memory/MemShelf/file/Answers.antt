use Rattle.std.proofs.Common.{sym, ◌∙◌, ap, Some}
use Rattle.std.specs.Option.{option_map}
use Rattle.memory_files.proofs.Files.{file_at-entries}
use Rattle.memory_files.proofs.memory.MemShelf.file.Goals as goal

pub returns-in-Some : goal.returns-in-Some
returns-in-Some c =
    ap Some c.as_slice.ensures.value
    ∙ sym (file_at-entries c.args.self.now.files.entries c.args.name.now ∙ ap (option_map (λ bytes. bytes.items)) (sym c.in-Some.ensures.value))

pub returns-in-None : goal.returns-in-None
returns-in-None c = sym (file_at-entries c.args.self.now.files.entries c.args.name.now ∙ ap (option_map (λ bytes. bytes.items)) (sym c.in-None.ensures.value))
