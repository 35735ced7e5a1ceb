use Rattle.std.proofs.Common.{ap, Some, None}
use Rattle.flop_base.specs.Shelf.{Files}
use Rattle.memory_files.proofs.Files.{files-stored}
use Rattle.memory_files.proofs.memory.MemShelf.put_file.Goals as goal

pub returns-clause-ok : goal.returns-clause-ok
returns-clause-ok c =
    ap (λ held. let files : Files = record { held = held; stores = None } in Some files)
    (files-stored c.args.self.now.files.entries c.insert.new.self.entries c.in_ok-name.name c.in_ok-kept.kept c.args.name.now c.args.bytes.now c.in_ok-insert.ensures.entries c.in_ok-name.ensures.ok c.in_ok-kept.ensures.items)
