-- What stands in the bays and under their names in a run: the files of disks stay the files of disks.
use Rattle.std.proofs.Common.{◌≡◌, ◌∙◌, ◌≤◌, ℕ, Bool, true, false, true≢false, cond, List, [], ◌∷◌, length, Option, Some, None, Ok, refl, ap, sym, subst, inl, arith, ◌+◌, ◌*◌, ◌<◌, inr, Result, Err, take, drop}
use Rattle.std.specs.Prelude.{◌==◌, ◌&&◌, not, is_some, IsSomeAnd, MatchOption, if◌then◌else◌, ◌⊎◌, nat_lt}
use Rattle.laws_program.proofs.Common.{of_one, nat_cmp, eq_by_cmp, slice_cmp, nat_list_cmp_total, Files, file_at, after_store, stored, Disk, IsDisk, image_of, file_of, image_again, Two, in_bay, with_bay, Change, Written, Format, Laying, Reason, Bay, State, Reaches, ChangesDisk, Lays, LaysDisk, IsImageOf, unless_bad, most_image_bytes, one_image, file_fits, IsDiskText, IsDiskFile, Names, lt-ltb, le-ltb, length-take, length-drop, ImageError, image_found, Request, Stop, StopCause, IsEndStop, AreBytes}
use Rattle.std.proofs.lemmas.Cmp.{eq_by_cmp_equiv}
use Rattle.raw_image.specs.Words.{bytes_of}
use Rattle.raw_image.proofs.Pairs.{IsBytes, length-bytes_of}
use Rattle.laws_program.proofs.AlikeDisks.{AlikeDisks, disk_itself, each_bay}
use Rattle.std.specs.FinMap as fin
use Rattle.flop_base.specs.declared.answers.Code.TheVariants as code
use Rattle.sector_model.specs.declared.reply.Reason.TheVariants as reason
use Rattle.floppy_jobs.specs.declared.request.Request.TheVariants as request
use Rattle.sector_model.specs.declared.reply.Stop.TheVariants as stop

-- ---- files

pub file_text : (d : Disk) → IsDisk d → IsDiskText (file_of d) d
file_text d valid = (file_fits d valid, (valid, inl refl))

pub file_stored : (files : Files) (name bytes other : List ℕ)
    → file_at (after_store files name bytes) other ≡ cond (eq_by_cmp (slice_cmp nat_cmp) other name) (Some bytes) (file_at files other)
file_stored files name bytes other = fin.get-insert nat_list_cmp_total files.held name bytes other

-- what was stored under a name is the file of a disk
pub stored_last : (told : Option Files) (name : List ℕ) (d : Disk) → IsDisk d → IsDiskFile (stored told name (file_of d)) name
stored_last None name d valid = (d, tt)
stored_last (Some files) name d valid =
    let there : file_at (after_store files name (file_of d)) name ≡ Some (file_of d) =
    file_stored files name (file_of d) name
    ∙ ap (λ (t : Bool). cond t (Some (file_of d)) (file_at files name)) ((eq_by_cmp_equiv nat_list_cmp_total).refl name) in
    (d, subst (λ (o : Option (List ℕ)). IsSomeAnd o (λ bytes. IsDiskText bytes d)) (sym there) (file_text d valid))

-- what was the file of a disk still is one after another file was stored
pub stored_still : (told : Option Files) (name other : List ℕ) (d : Disk) → IsDisk d → IsDiskFile told other → IsDiskFile (stored told name (file_of d)) other
stored_still None name other d valid is = is
stored_still (Some files) name other d valid is =
    let kept = go (eq_by_cmp (slice_cmp nat_cmp) other name) in
    (kept.0, subst (λ (o : Option (List ℕ)). IsSomeAnd o (λ bytes. IsDiskText bytes kept.0)) (sym (file_stored files name (file_of d) other)) kept.1)
  where
    go : (t : Bool) → (disk : Disk) × IsSomeAnd (cond t (Some (file_of d)) (file_at files other)) (λ bytes. IsDiskText bytes disk)
    go true = (d, file_text d valid)
    go false = is

-- the file of a disk is an image
pub file_image : (files : Files) (name : List ℕ) → (is : IsDiskFile (Some files) name) → IsImageOf (Some files) name is.0
file_image files name is =
    let one = of_one (file_at files name) is.1 is.1 in
    subst (λ (o : Option (List ℕ)). IsSomeAnd o (λ bytes. (length bytes ≤ most_image_bytes) × (image_of bytes ≡ Ok is.0))) (sym one.1)
    (one.2.0, image_again one.0 is.0 one.2.1)

pub file_disk : (files : Files) (name : List ℕ) → (is : IsDiskFile (Some files) name) → IsDisk is.0
file_disk files name is = (of_one (file_at files name) is.1 is.1).2.1.0

-- the disk that is loaded from such a file is in its ranges
pub inserted_disk : (files : Files) (name : List ℕ) (disk : Disk) → IsDiskFile (Some files) name → IsImageOf (Some files) name disk → IsDisk disk
inserted_disk files name disk is image =
    subst IsDisk (one_image files name is.0 disk (file_image files name is) image) (file_disk files name is)

-- ---- the bays

-- a bay has a disk if and only if it has a name
abbrev pub IsHeld : Option (List ℕ) → Option Disk → Type 0
IsHeld (Some name) (Some disk) = IsDisk disk
IsHeld None None = Unit {0}
IsHeld _ _ = ⊥

pub record AreHeld (names : Names) (bays : Two Bay) : Type 0 where
  pub first : IsHeld names.first bays.first.medium
  pub second : IsHeld names.second bays.second.medium

pub held_in : (names : Names) (bays : Two Bay) (at : ℕ) → AreHeld names bays → IsHeld (in_bay names at) (in_bay bays at).medium
held_in names bays at held = each_bay names bays (λ name bay. IsHeld name bay.medium) at held.first held.second

pub held_with : (names : Names) (bays : Two Bay) (at : ℕ) (name : Option (List ℕ)) (x : Bay) → AreHeld names bays → IsHeld name x.medium
    → AreHeld (with_bay names at name) (with_bay bays at x)
held_with names bays at name x held here = go (at == 0)
  where
    go : (b : Bool) → AreHeld (if b then record names { first = name } else record names { second = name })
        (if b then record bays { first = x } else record bays { second = x })
    go true = record { first = here; second = held.second }
    go false = record { first = held.first; second = here }

-- the bay was changed, and has a disk if and only if it has its old name
pub held_still : (names : Names) (bays : Two Bay) (at : ℕ) (x : Bay) → AreHeld names bays → IsHeld (in_bay names at) x.medium → AreHeld names (with_bay bays at x)
held_still names bays at x held here = go (at == 0) here
  where
    go : (b : Bool) → IsHeld (if b then names.first else names.second) x.medium
        → AreHeld names (if b then record bays { first = x } else record bays { second = x })
    go true here = record { first = here; second = held.second }
    go false here = record { first = held.first; second = here }

pub named_loaded : (name : Option (List ℕ)) (medium : Option Disk) → IsHeld name medium → is_some medium ≡ is_some name
named_loaded (Some name) None held = absurd held
named_loaded None (Some disk) held = absurd held
named_loaded _ _ held = refl

pub held_none : (name : Option (List ℕ)) (medium : Option Disk) → is_some medium ≡ false → IsHeld name medium → IsHeld name None
held_none name None empty held = held
held_none name (Some disk) empty held = absurd (true≢false empty)

pub held_is : (name : Option (List ℕ)) (medium : Option Disk) (disk : Disk) → medium ≡ Some disk → IsHeld name medium → IsDisk disk
held_is (Some name) (Some other) disk is held = subst IsDisk (cc is) held
held_is None (Some other) disk is held = absurd held
held_is name None disk is held = absurd (cc is)

changes_valid : (written : Written) (disk : Disk) (changes : List Change) (after : Disk) → IsDisk disk → ChangesDisk written disk changes after → IsDisk after
changes_valid written disk [] after valid is = subst IsDisk (sym is) valid
changes_valid written disk (change ∷ later) after valid is = changes_valid written is.0 later after is.1.cut.valid is.2

lays_valid : (format : Format) (disk : Disk) (layings : List Laying) (after : Disk) → IsDisk disk → LaysDisk format disk layings after → IsDisk after
lays_valid format disk [] after valid is = subst IsDisk (sym is) valid
lays_valid format disk (laying ∷ later) after valid is = lays_valid format is.0 later after is.1.laid.valid is.2

pub reach_held : (name : Option (List ℕ)) (written : Written) (before : Option Disk) (changes : List Change) (after : Option Disk)
    → IsHeld name before → Reaches written before changes after → IsHeld name after
reach_held (Some name) written (Some disk) changes (Some after) held reach = changes_valid written disk changes after held reach
reach_held None written (Some disk) changes (Some after) held reach = absurd held
reach_held name written (Some disk) changes None held reach = absurd reach
reach_held name written None changes after held reach = subst (IsHeld name) (sym reach.1) held

pub lays_held : (name : Option (List ℕ)) (format : Format) (before : Option Disk) (layings : List Laying) (after : Option Disk)
    → IsHeld name before → Lays format before layings after → IsHeld name after
lays_held (Some name) format (Some disk) layings (Some after) held lays = lays_valid format disk layings after held lays
lays_held None format (Some disk) layings (Some after) held lays = absurd held
lays_held name format (Some disk) layings None held lays = absurd lays
lays_held name format None layings after held lays = subst (IsHeld name) (sym lays.1) held

-- ---- one step

-- the bays have these names, and each name that holds the file of a disk does so among the told files
pub record IsKept (Holds : List ℕ → Type 0) (names : Names) (state : State) (told : Option Files) : Type 0 where
  pub files : Files
  pub told_is : told ≡ Some files
  pub named : state.names ≡ names
  pub held : AreHeld names state.station.bays
  pub holds : (name : List ℕ) → Holds name → IsDiskFile told name

-- a request that puts a medium in, by the order of refusals: a medium goes in, or nothing changes
pub choose : {P : Type 0} {Q : Reason → Type 0} (F : Names → Type 0) (names put : Names) (good loaded : Bool)
    → MatchOption (unless_bad good (if loaded then Some reason.Busy else None)) P Q → (good ≡ true → loaded ≡ false → P → F put)
    → ((cause : Reason) → Q cause → F names)
    → F (if good then (if loaded then names else put) else names)
choose F names put true true holds done refused = refused reason.Busy holds
choose F names put true false holds done refused = done refl refl holds
choose F names put false loaded holds done refused = refused (reason.Driver code.BadRequest) holds

-- a request that takes a medium out: one comes out, or nothing changes
pub choose_out : {P : Type 0} {Q : Reason → Type 0} (F : Names → Type 0) (names put : Names) (good loaded : Bool)
    → MatchOption (unless_bad good (if loaded then None else Some reason.Empty)) P Q → (P → F put)
    → ((cause : Reason) → (good ≡ true → loaded ≡ true → ⊥) → Q cause → F names) → F (if good then (if loaded then put else names) else names)
choose_out F names put true true holds done refused = done holds
choose_out F names put true false holds done refused = refused reason.Empty (λ a b. true≢false (sym b)) holds
choose_out F names put false loaded holds done refused = refused (reason.Driver code.BadRequest) (λ a b. true≢false (sym a)) holds

-- a request that puts a medium in and isn't refused finds a free bay
pub goes_in : (good loaded : Bool) → unless_bad good (if loaded then Some reason.Busy else None) ≡ None → (good && not loaded) ≡ true
goes_in true false e = refl
goes_in _ _ e = absurd (cc e)

pub both_free : (good loaded : Bool) → good ≡ true → loaded ≡ false → (good && not loaded) ≡ true
both_free good loaded e f = rw (e, f) refl

pub not_loaded : (good loaded : Bool) (next : Option Reason) → unless_bad good (if loaded then Some reason.Busy else next) ≡ None → loaded ≡ false
not_loaded true false next e = refl
not_loaded _ _ next e = absurd (cc e)

-- ---- files that are alike: as images they are of alike disks, or they have the same error

abbrev pub AlikeImages : Result Disk ImageError → Result Disk ImageError → Type 0
AlikeImages (Ok one) (Ok two) = AlikeDisks one two
AlikeImages (Err error) (Err other) = other ≡ error
AlikeImages _ _ = ⊥

-- bytes of one length, whose images are alike
pub record AlikeBytes (bytes other : List ℕ) : Type 0 where
  pub long : length other ≡ length bytes
  pub images : AlikeImages (image_of bytes) (image_of other)

abbrev pub AlikeFiles : Option (List ℕ) → Option (List ℕ) → Type 0
AlikeFiles None None = Unit {0}
AlikeFiles (Some bytes) (Some other) = AlikeBytes bytes other
AlikeFiles _ _ = ⊥

abbrev pub AlikeTold : Option Files → Option Files → Type 0
AlikeTold (Some files) (Some others) = (name : List ℕ) → AlikeFiles (file_at files name) (file_at others name)
AlikeTold _ _ = ⊥

-- ---- the same files

pub held_at : (files others : Files) (name : List ℕ) → others.held ≡ files.held → file_at others name ≡ file_at files name
held_at files others name same = ap (λ (held : fin.FinMap (slice_cmp nat_cmp) (List ℕ)). fin.get held name) same

image_itself : (bytes : List ℕ) → IsBytes bytes → AlikeImages (image_of bytes) (image_of bytes)
image_itself bytes fits = go (image_of bytes) refl
  where
    go : (r : Result Disk ImageError) → image_of bytes ≡ r → AlikeImages r r
    go (Ok disk) e = disk_itself disk (image_found bytes disk fits e).0
    go (Err error) e = refl

pub told_itself : (files : Files) → AreBytes files → AlikeTold (Some files) (Some files)
told_itself files bytes name = go (file_at files name) refl
  where
    go : (o : Option (List ℕ)) → file_at files name ≡ o → AlikeFiles o o
    go None e = tt
    go (Some content) e = record { long = refl; images = image_itself content (bytes name content e) }

pub held_alike : (files others : Files) → others.held ≡ files.held → AreBytes files → AlikeTold (Some files) (Some others)
held_alike files others same bytes name =
    subst (λ (o : Option (List ℕ)). AlikeFiles (file_at files name) o) (sym (held_at files others name same)) (told_itself files bytes name)

-- ---- files of alike disks

length-file : (d : Disk) → length (file_of d) ≡ 14 + 2 * length d.words
length-file d =
    let front : length (take 14 (file_of d)) ≡ 14 = refl in
    let back : length (drop 14 (file_of d)) ≡ length (bytes_of d.words) = refl in
    omega (arith, front, back, length-take 14 (file_of d), length-drop 14 (file_of d), length-bytes_of d.words)

read_again : (d : Disk) → IsDisk d → image_of (file_of d) ≡ Ok d
read_again d valid = image_again (file_of d) d (valid, inl refl)

same_count : (one two : Disk) → AlikeDisks one two → length two.words ≡ length one.words
same_count one two same =
    same.alike.valid.count
    ∙ ap (λ (n : ℕ). n * two.heads * two.words_per_track) same.alike.cylinders
    ∙ ap (λ (n : ℕ). one.cylinders * n * two.words_per_track) same.alike.heads
    ∙ ap (λ (n : ℕ). one.cylinders * one.heads * n) same.alike.words_per_track
    ∙ sym same.valid.count

pub disk_files : (one two : Disk) → AlikeDisks one two → AlikeBytes (file_of one) (file_of two)
disk_files one two same = record {
  long = omega (arith, length-file one, length-file two, same_count one two same);
  images =
      subst (λ (r : Result Disk ImageError). AlikeImages r (image_of (file_of two))) (sym (read_again one same.valid))
      (subst (λ (r : Result Disk ImageError). AlikeImages (Ok one) r) (sym (read_again two same.alike.valid)) same);
}

stored_on : (a b : Files) (bytes others q : List ℕ) → AlikeTold (Some a) (Some b) → AlikeBytes bytes others → (test : Bool) → AlikeFiles (cond test (Some bytes) (file_at a q)) (cond test (Some others) (file_at b q))
stored_on a b bytes others q same alike true = alike
stored_on a b bytes others q same alike false = same q

pub stored_same : (told other : Option Files) (name bytes others : List ℕ) → AlikeTold told other → AlikeBytes bytes others → AlikeTold (stored told name bytes) (stored other name others)
stored_same (Some a) (Some b) name bytes others same alike = λ q.
    subst (λ (o : Option (List ℕ)). AlikeFiles o (file_at (after_store b name others) q)) (sym (file_stored a name bytes q))
    (subst (λ (o : Option (List ℕ)). AlikeFiles (cond (eq_by_cmp (slice_cmp nat_cmp) q name) (Some bytes) (file_at a q)) o) (sym (file_stored b name others q))
    (stored_on a b bytes others q same alike (eq_by_cmp (slice_cmp nat_cmp) q name)))
stored_same _ _ name bytes others same alike = absurd same

-- ---- what a load of an image makes of a file

-- the images of two told files of one name
pub images_alike : (told other : Option Files) (name : List ℕ) (d e : Disk) → AlikeTold told other → IsImageOf told name d → IsImageOf other name e → AlikeDisks d e
images_alike (Some a) (Some b) name d e same is is_too = go (file_at a name) (file_at b name) (same name) is is_too
  where
    go : (o p : Option (List ℕ)) → AlikeFiles o p → IsSomeAnd o (λ bytes. (length bytes ≤ most_image_bytes) × (image_of bytes ≡ Ok d)) → IsSomeAnd p (λ bytes. (length bytes ≤ most_image_bytes) × (image_of bytes ≡ Ok e)) → AlikeDisks d e
    go None p x y z = absurd y
    go (Some bytes) None x y z = absurd x
    go (Some bytes) (Some others) x y z =
        subst (λ (r : Result Disk ImageError). AlikeImages (Ok d) r) z.1
        (subst (λ (r : Result Disk ImageError). AlikeImages r (image_of others)) y.1 x.images)
images_alike _ _ name d e same is is_too = absurd same

-- why a load of an image stops a run, if it does
abbrev image_stop : List ℕ → Result Disk ImageError → Option Stop
image_stop name (Ok disk) = None
image_stop name (Err error) = Some (stop.BadImage name error)

abbrev pub stop_by : List ℕ → Option (List ℕ) → Option Stop
stop_by name None = Some (stop.Absent name)
stop_by name (Some bytes) =
    if nat_lt most_image_bytes (length bytes) then Some (stop.TooLong name most_image_bytes) else image_stop name (image_of bytes)

same_image_stop : (name : List ℕ) (r s : Result Disk ImageError) → AlikeImages r s → image_stop name s ≡ image_stop name r
same_image_stop name (Ok d) (Ok e) same = refl
same_image_stop name (Err error) (Err other) same = ap (λ (e : ImageError). Some (stop.BadImage name e)) same
same_image_stop name _ _ same = absurd same

pub same_stop : (name : List ℕ) (o p : Option (List ℕ)) → AlikeFiles o p → stop_by name p ≡ stop_by name o
same_stop name None None same = refl
same_stop name (Some bytes) (Some others) same =
    ap (λ (n : ℕ). if nat_lt most_image_bytes n then Some (stop.TooLong name most_image_bytes) else image_stop name (image_of others)) same.long
    ∙ ap (λ (s : Option Stop). if nat_lt most_image_bytes (length bytes) then Some (stop.TooLong name most_image_bytes) else s) (same_image_stop name (image_of bytes) (image_of others) same.images)
same_stop name _ _ same = absurd same

short_stop : (name bytes : List ℕ) → length bytes ≤ most_image_bytes → stop_by name (Some bytes) ≡ image_stop name (image_of bytes)
short_stop name bytes short =
    ap (λ (b : Bool). if b then Some (stop.TooLong name most_image_bytes) else image_stop name (image_of bytes)) (le-ltb most_image_bytes (length bytes) short)

-- a load doesn't stop a run if the file is an image
pub no_stop : (files : Files) (name : List ℕ) (d : Disk) → IsImageOf (Some files) name d → stop_by name (file_at files name) ≡ None
no_stop files name d is =
    let one = of_one (file_at files name) is is in
    ap (stop_by name) one.1 ∙ short_stop name one.0 one.2.0 ∙ ap (image_stop name) one.2.1

-- a stop of a run by a load, which the outside didn't make
pub record IsLoadStop (files : Files) (asked : Request) (cause : Stop) : Type 0 where
  pub bay : ℕ
  pub name : List ℕ
  pub asked_is : asked ≡ request.Insert bay name
  pub is : stop_by name (file_at files name) ≡ Some cause

pub stop_cases : (files : Files) (asked : Request) (cause : Stop) → StopCause (Some files) asked cause → IsEndStop cause ⊎ IsLoadStop files asked cause
stop_cases files asked stop.FileFault is = inl tt
stop_cases files asked stop.NoMemory is = inl tt
stop_cases files asked (stop.Absent name) is =
    inr (record { bay = is.0.0; name = name; asked_is = is.0.1; is = ap (stop_by name) is.1 })
stop_cases files asked (stop.BadImage name error) is =
    let one = of_one (file_at files name) is.1 is.1 in
    let bad = ap (stop_by name) one.1 ∙ short_stop name one.0 one.2.0 ∙ ap (image_stop name) one.2.1 in
    inr (record { bay = is.0.0; name = name; asked_is = is.0.1; is = bad })
stop_cases files asked (stop.TooLong name most) is =
    let one = of_one (file_at files name) is.2 is.2 in
    let long : most_image_bytes < length one.0 = subst (λ (m : ℕ). m < length one.0) is.1 one.2 in
    let longer = ap (stop_by name) one.1
    ∙ ap (λ (b : Bool). if b then Some (stop.TooLong name most_image_bytes) else image_stop name (image_of one.0)) (lt-ltb most_image_bytes (length one.0) long)
    ∙ ap (λ (m : ℕ). Some (stop.TooLong name m)) (sym is.1) in
    inr (record { bay = is.0.0; name = name; asked_is = is.0.1; is = longer })
