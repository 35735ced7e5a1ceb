-- Laid tracks: regular formatted tracks, and what whole windows written over their data fields make of them.
use Rattle.std.specs.Prelude.{◌≡◌, ◌≢◌, ℕ, ◌≤◌, Bool, List, [], ◌∷◌, length, All, AllPairs}
use Rattle.flop_base.specs.declared.key.Chrn.{Chrn}
use Rattle.track_model.specs.Fields.{IsSizeCode}
use Rattle.track_model.specs.Writing.{window}
use Rattle.track_model.specs.Windows.{cut_of, HasFieldFor}
use Rattle.track_model.specs.Layouts.{lay, Fits}
use Rattle.track_model.specs.LaidFields.{IsKey, HasEndRoom}

-- the keys have one cylinder and one head
abbrev pub HaveOneHead : List Chrn → Type 0
HaveOneHead keys = (c h : ℕ) × All (λ key. (key.c ≡ c) × (key.h ≡ h)) keys

-- a formatted track that satisfies all conditions for being regular
pub record IsRegularLay (track : List ℕ) (keys : List Chrn) (n gap3 fill words : ℕ) : Type 0 where
  pub is : track ≡ lay keys n gap3 fill words
  pub fits : Fits keys n gap3 words
  pub coded : IsSizeCode n
  pub wide : 16 ≤ gap3
  pub bytes : All (λ key. IsKey key) keys
  pub asked : All (λ key. key.n ≡ n) keys
  pub distinct : AllPairs (λ a b. a ≢ b) keys
  pub together : HaveOneHead keys
  pub room : HasEndRoom (length keys) n gap3 words

-- some layout gives the track
abbrev pub IsSomeRegularLay : List ℕ → Type 0
IsSomeRegularLay track = (keys : List Chrn) × (n gap3 fill words : ℕ) × IsRegularLay track keys n gap3 fill words

-- a write over the data field of the address field at a place
pub record FieldWrite : Type 0 where
  pub place : ℕ
  pub deleted : Bool
  pub content : List ℕ

-- the track with the whole window of that write
abbrev pub with_window : List ℕ → ℕ → Bool → List ℕ → List ℕ
with_window track p deleted content = cut_of track p (length (window deleted content)) (window deleted content)

-- `after` comes from the track by these writes, one after the other. Each is at an address field, and its content has
-- the size that this field names
abbrev pub ComesBy : List ℕ → List FieldWrite → List ℕ → Type 0
ComesBy track [] after = after ≡ track
ComesBy track (write ∷ rest) after =
    HasFieldFor track write.place write.content
    × ComesBy (with_window track write.place write.deleted write.content) rest after

-- Laid: a regular formatted track, or what comes from one by whole windows at the places of its address fields
pub record IsLaid (track : List ℕ) : Type 0 where
  pub formatted : List ℕ
  pub lay : IsSomeRegularLay formatted
  pub writes : List FieldWrite
  pub written : ComesBy formatted writes track
