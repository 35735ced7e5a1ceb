-- The bytes of a content, one after the other.
use Rattle.std.proofs.Common.{◌≡◌, ◌≤◌, ℕ, Bool, false, Option, None, Some, IfSome, IsNone, List, [], ◌∷◌, ◌++◌, arith, refl, sym, ap, subst}
use Rattle.track_separator.specs.declared.state.Seen.TheVariants as seen
use Rattle.fdc_stages.proofs.Common.{Separator, with_word, SReads, SReadSeen, content_size, ReadStage, Content, HearsByte, IsContent}
use Rattle.fdc_stages.specs.Readings.{HearsBytes, IsWhole}
use Rattle.fdc_stages.proofs.Lawful.{told_taken}
use Rattle.fdc_stages.proofs.ReadWord.{byte_heard}

-- what the separator's byte says of the reading
pub byte_comes : (word : ℕ) (before now : Separator) (deleted : Bool) (stage : ReadStage) (answer : Option ℕ) → stage ≡ Content before deleted
    → IfSome answer (λ value. (fed : List ℕ) (p q : ℕ) (other : Bool) (size taken : ℕ) → SReads before fed p q other size taken → SReadSeen (with_word fed word) p q other size taken now (seen.Byte value))
    → IfSome answer (λ value. HearsByte word value stage (Content now deleted))
byte_comes word before now deleted stage None is reads = tt
byte_comes word before now deleted stage (Some value) is reads = subst (λ stage. HearsByte word value stage (Content now deleted)) (sym is) (record {
  gives = λ past key told was.
      byte_heard false past word key told before now (seen.Byte value) deleted was (λ p q taken. reads past.seen p q deleted (content_size key.n) taken) value refl;
  mark = refl;
  same = refl;
  content = tt;
})

-- where the separator gives no byte, all bytes of the content were reported
pub whole_without : (before : Separator) (deleted : Bool) (stage : ReadStage) (answer : Option ℕ) → stage ≡ Content before deleted
    → (IsNone answer → (fed : List ℕ) (p q : ℕ) (other : Bool) (size taken : ℕ) → SReads before fed p q other size taken → size ≤ taken)
    → IsNone answer → IsContent stage → IsWhole stage
whole_without before deleted stage answer is all none content = subst IsWhole (sym is) (λ past key told was.
    let (p, q, taken, at) = was in
    let long = told_taken past key told before deleted p q taken at in
    let most = all none past.seen p q deleted (content_size key.n) taken at.reads in
    omega (arith, long, most))

pub hears_none : (stage : ReadStage) → HearsBytes [] [] stage stage
unfolding HearsBytes
hears_none stage = (refl, refl)

-- the bytes that words give, with one word more
pub hears_more : (words bytes : List ℕ) (word value : ℕ) (stage mid next : ReadStage) → HearsBytes words bytes stage mid → HearsByte word value mid next → HearsBytes (words ++ word ∷ []) (bytes ++ value ∷ []) stage next
unfolding HearsBytes
hears_more [] bytes word value stage mid next hears byte =
    (value, [], next, ap (λ b. b ++ value ∷ []) hears.0, subst (λ s. HearsByte word value s next) hears.1 byte, (refl, refl))
hears_more (first ∷ words) bytes word value stage mid next (one, more, between, is, hears, rest) byte =
    (one, more ++ value ∷ [], between, ap (λ b. b ++ value ∷ []) is, hears, hears_more words more word value between mid next rest byte)
