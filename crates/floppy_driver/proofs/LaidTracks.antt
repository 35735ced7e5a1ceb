-- What one format command makes of the medium in a bay, from the cylinder that was asked for.
use Rattle.std.proofs.Common.{◌≡◌, ℕ, zero, suc, ◌<◌, ◌≤◌, All, List, [], ◌∷◌, length, Option, Some, None, MatchOption, refl, sym, ap, ◌∙◌, subst, arith}
use Rattle.floppy_driver.proofs.Common.{Chrn, Rate, R500, R250, sectors_at, standard_code, Disk, IsDisk, HasTrack, track_of, IsSizeCode, Fits, met_in, key_of, Format, Laying, IsLaying, format_keys, formatted, met_track, Lays, IsUnformatted, HoldsRecords}
use Rattle.track_model.specs.LaidFields.{IsKey}
use Rattle.track_format.specs.Reads.{HasClearField}
use Rattle.track_format.proofs.Read.{read_clear, read_filled}
use Rattle.sector_map.proofs.Laid.{all_track_keys, each_track_key, laid_whole}

pub same_some : (a b : Disk) → Some a ≡ Some b → a ≡ b
same_some a b e = cc

pub lays_none : (format : Format) (m n : Option Disk) → n ≡ m → Lays format m [] n
lays_none format None None e = (refl, e)
lays_none format (Some d) (Some f) e = same_some f d e
lays_none format _ _ e = absurd (cc e)

lays_one : (format : Format) (m n : Option Disk) (d after : Disk) (laying : Laying) → m ≡ Some d → n ≡ Some after → IsLaying format d laying after → Lays format m (laying ∷ []) n
lays_one format m n d after laying e f is = rw (e, f) (after, is, refl)

all_one : (P : Laying → Type 0) (x : Laying) → P x → All P (x ∷ [])
all_one P x fact zero d h = fact
all_one P x fact (suc k) d h = absurd (omega arith)

-- ---- a track that holds its records

few_sectors : (rate : Rate) → sectors_at rate ≤ 18
few_sectors R500 = omega arith
few_sectors R250 = omega arith

keys_are : (format : Format) → format.c ≤ 79 → format.h ≤ 1 → All (λ key. IsKey key) (format_keys format)
keys_are format c h =
    all_track_keys (sectors_at format.rate) format.c format.h (λ key. IsKey key)
    (λ r some most. let few = few_sectors format.rate in record { cylinder = omega arith; head = omega arith; sector = omega arith; size = omega arith })

-- the formatted track holds the byte in each of its records
pub formatted_holds : (format : Format) (words : ℕ) → format.c ≤ 79 → format.h ≤ 1 → format.fill < 256 → Fits (format_keys format) standard_code format.gap3 words → HoldsRecords (formatted format words) format.c format.h (sectors_at format.rate) format.fill
formatted_holds format words c h byte fits r some most =
    let coded : IsSizeCode standard_code = (omega arith, omega arith) in
    let keys = format_keys format in
    let are = keys_are format c h in
    let Clear : Chrn → Type 0 = λ key. HasClearField (formatted format words) key in
    let clear = each_track_key (sectors_at format.rate) format.c format.h Clear (read_clear keys standard_code format.gap3 format.fill words fits coded byte are) r some most in
    record {
      clear = (clear.0, record { clear = clear.1; address = clear.2 });
      filled = read_filled keys standard_code format.gap3 format.fill words fits coded byte are (key_of format.c format.h r) refl;
    }

-- ---- one laying, or none

-- this laying was made on a medium, at this cylinder
pub record IsLaidFrom (format : Format) (cylinder : ℕ) (before : Option Disk) (laying : Laying) (after : Option Disk) : Type 0 where
  pub old : Disk
  pub new : Disk
  pub was : before ≡ Some old
  pub is : after ≡ Some new
  pub same_rate : old.rate ≡ format.rate
  pub here : laying.cylinder ≡ cylinder
  pub makes : IsLaying format old laying new

-- a laying was made, or the medium is as it was
abbrev pub MayLay : Format → ℕ → Option Disk → Option Laying → Option Disk → Type 0
MayLay format cylinder before laying after = MatchOption laying (after ≡ before) (λ one. IsLaidFrom format cylinder before one after)

abbrev pub layings_of : Option Laying → List Laying
layings_of None = []
layings_of (Some laying) = laying ∷ []

-- the whole track of a disk was laid
pub record IsLaidWhole (format : Format) (disk : Disk) (after : Option Disk) : Type 0 where
  pub new : Disk
  pub is : after ≡ Some new
  pub has : HasTrack new format.c format.h
  pub same_rate : new.rate ≡ format.rate
  pub track : track_of new format.c format.h ≡ formatted format disk.words_per_track

module _ (format : Format) (cylinder : ℕ) (before after : Option Disk) where
  pub one_at_most : (laying : Option Laying) → length (layings_of laying) ≤ 1
  one_at_most None = omega arith
  one_at_most (Some one) = omega arith

  pub laying_lays : (laying : Option Laying) → MayLay format cylinder before laying after → Lays format before (layings_of laying) after
  laying_lays None same = lays_none format before after same
  laying_lays (Some one) laid = lays_one format before after laid.old laid.new one laid.was laid.is laid.makes

  pub laying_only : (laying : Option Laying) → MayLay format cylinder before laying after → cylinder ≡ format.c → All (λ one. one.cylinder ≡ format.c) (layings_of laying)
  laying_only None same there = λ k d below. absurd (omega arith)
  laying_only (Some one) laid there = all_one (λ l. l.cylinder ≡ format.c) one (laid.here ∙ there)

  pub laying_untouched : (laying : Option Laying) → MayLay format cylinder before laying after → cylinder ≡ format.c → IsUnformatted format before after
  laying_untouched None same there none = same
  laying_untouched (Some one) laid there none =
      absurd (none laid.old laid.was (subst (λ (c : ℕ). HasTrack laid.old c format.h) (laid.here ∙ there) laid.makes.track) laid.same_rate)

  pub laying_whole : (laying : Option Laying) → MayLay format cylinder before laying after → cylinder ≡ format.c → (disk : Disk) → IsDisk disk → before ≡ Some disk → MatchOption laying ⊥ (λ one. one.words ≡ disk.words_per_track) → IsLaidWhole format disk after
  laying_whole None same there disk valid was whole = absurd whole
  laying_whole (Some one) laid there disk valid was whole =
      let same : disk ≡ laid.old = same_some disk laid.old (sym was ∙ laid.was) in
      let makes : IsLaying format disk one laid.new = rw same laid.makes in
      let had = rw (laid.here ∙ there) at makes.track in
      let shape = makes.laid in
      record {
        new = laid.new;
        is = laid.is;
        has = (let e = shape.cylinders in let h = had.0 in omega arith, let e = shape.heads in let h = had.1 in omega arith);
        same_rate = shape.rate ∙ ap (λ (d : Disk). d.rate) same ∙ laid.same_rate;
        track = rw (laid.here ∙ there) at (laid_whole format disk one laid.new valid makes whole);
      }

-- such a track holds its records, as a command meets them
pub laid_holds : (format : Format) (disk : Disk) (after : Option Disk) → format.c ≤ 79 → format.h ≤ 1 → format.fill < 256 → Fits (format_keys format) standard_code format.gap3 disk.words_per_track → IsLaidWhole format disk after → HoldsRecords (met_in after format.rate format.c format.h) format.c format.h (sectors_at format.rate) format.fill
laid_holds format disk after c h byte fits laid =
    let met : met_in after format.rate format.c format.h ≡ formatted format disk.words_per_track =
    met_track after format.rate format.c format.h laid.new (record { is_in = laid.is; has = laid.has; same_rate = laid.same_rate }) ∙ laid.track in
    subst (λ (words : List ℕ). HoldsRecords words format.c format.h (sectors_at format.rate) format.fill) (sym met)
    (formatted_holds format disk.words_per_track c h byte fits)
