use Rattle.std.proofs.Common.{refl}
use Rattle.imagedisk.proofs.Held.{held_size, held_bytes, key_bytes}
use Rattle.imagedisk.proofs.fields.sector_of.Goals as goal

pub returns-clause-valid : goal.returns-clause-valid
returns-clause-valid c =
    let field = c.args.field in
    let kind = c.in_ok-kind.kind in
    let content = c.in_ok-kind.content in
    record {
      coded = refl;
      size = held_size c.args.words.now field.place field.key.n kind content c.in_ok-kind.ensures;
      key = key_bytes c.args.words.now field.place field.key c.requires.address;
      bytes = held_bytes c.args.words.now field.place field.key.n kind content c.in_ok-kind.ensures;
    }
