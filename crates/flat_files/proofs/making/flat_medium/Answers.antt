use Rattle.std.proofs.Common.{◌≡◌, ◌∙◌, ap, subst, sym}
use Rattle.std.specs.Prelude.{Err}
use Rattle.flat_files.proofs.Common.{narrow_gap, HasImage, IsFirstCrowded, IsMediumOf, MakesDisk, ImdImage, flat_image, rate_of}
use Rattle.imagedisk.specs.declared.error.ImdError.{ImdError}
use Rattle.flat_files.proofs.Valid.{not_crowded}
use Rattle.flat_files.proofs.making.flat_medium.Goals as goal

pub returns-in-Ok : goal.returns-in-Ok
returns-in-Ok c =
    let is : c.in_ok-image.image ≡ flat_image c.args.bytes.now c.in_ok-sectors.sectors (rate_of c.in_ok-sectors.sectors) =
    c.in_ok-image.ensures.is ∙ ap (flat_image c.args.bytes.now c.in_ok-sectors.sectors) c.rate_of.ensures in (
      c.in_ok-sectors.sectors,
      record {
        told = sym c.in_ok-sectors.ensures.told;
        made = subst (λ (image : ImdImage). IsMediumOf narrow_gap image c.in-Ok.medium) is c.in-Ok.ensures.made;
        found = subst (λ (image : ImdImage). HasImage c.in-Ok.medium image) is c.in-Ok.ensures.found;
      },
    )

pub fault-requires : goal.fault-requires
fault-requires c = λ cylinder head unfit.
    let is : c.in_ok-image.image ≡ flat_image c.args.bytes.now c.in_ok-sectors.sectors (rate_of c.in_ok-sectors.sectors) =
    c.in_ok-image.ensures.is ∙ ap (flat_image c.args.bytes.now c.in_ok-sectors.sectors) c.rate_of.ensures in
    let crowded = subst (λ (error : ImdError). MakesDisk narrow_gap c.in_ok-image.image (Err error)) unfit c.in-Err.ensures.made in
    not_crowded c.args.bytes.now c.in_ok-sectors.sectors cylinder head crowded.0 c.in_ok-sectors.ensures.ok.0
    (subst (λ (image : ImdImage). IsFirstCrowded narrow_gap image cylinder head crowded.0) is crowded.1)

pub returns : goal.returns
returns c = rw c.fault.ensures tt
