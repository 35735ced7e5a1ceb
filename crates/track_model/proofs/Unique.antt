-- What is found on a track is unique.
use Rattle.std.proofs.Common.{◌≡◌, ℕ, ◌+◌, Bool, true, false, List, refl, sym, ap, subst, ◌∙◌, arith, inl, inr}
use Rattle.track_model.proofs.Common.{cases_order, Chrn, Look, Found, NoMark, NoSector, NoData, BadCrc, byte_at, data_byte, IsAddressAt, IsDataMark, IsFirstDataMark, IsIntact, LookAt, IsFirstAddress, LookFirst, LookFor}

made : ℕ → ℕ → ℕ → ℕ → Chrn
made c h r n = record { c = c; h = h; r = r; n = n }

-- an address field has only one key
pub one_key : (track : List ℕ) (p : ℕ) (a b : Chrn) → IsAddressAt track p a → IsAddressAt track p b → a ≡ b
unfolding made
one_key track p a b x y =
    let c : a.c ≡ b.c = sym x.cylinder ∙ y.cylinder in
    let h : a.h ≡ b.h = sym x.head ∙ y.head in
    let r : a.r ≡ b.r = sym x.sector ∙ y.sector in
    let n : a.n ≡ b.n = sym x.size ∙ y.size in
    ap (λ v. made v a.h a.r a.n) c ∙ ap (λ v. made b.c v a.r a.n) h ∙ ap (λ v. made b.c b.h v a.n) r ∙ ap (λ v. made b.c b.h b.r v) n

one_data_byte : (a b : Bool) → data_byte a ≡ data_byte b → a ≡ b
one_data_byte true false e = absurd (omega arith)
one_data_byte false true e = absurd (omega arith)
one_data_byte _ _ e = refl

-- the first data mark stands in one place
pub one_first : (track : List ℕ) (p q r : ℕ) (a b : Bool) → IsFirstDataMark track p q a → IsFirstDataMark track p r b → q ≡ r
one_first track p q r a b x y =
    elim (cases_order q r) [
      | inl e ↦ e
      | inr (inl h) ↦ absurd (y.none_before q a h x.mark)
      | inr (inr h) ↦ absurd (x.none_before r b h y.mark)
    ]

-- and it is deleted or not
pub one_deleted : (track : List ℕ) (p q r : ℕ) (a b : Bool) → IsDataMark track p q a → IsDataMark track p r b → q ≡ r → a ≡ b
one_deleted track p q r a b x y e =
    one_data_byte a b (sym x.run.mark ∙ ap (λ k. byte_at track (k + 48)) e ∙ y.run.mark)

same_found : (a b : Bool) (u v : ℕ) → a ≡ b → u ≡ v → Found a u ≡ Found b v
same_found a b u v e f = ap (λ d. Found d u) e ∙ ap (λ k. Found b k) f

-- the look at an address field has only one answer
pub one_look_at : (track : List ℕ) (p n : ℕ) (a b : Look) → LookAt track p n a → LookAt track p n b → a ≡ b
one_look_at track p n (Found a u) (Found b v) x y =
    let e = one_first track p x.0 y.0 a b x.1.first y.1.first in
    same_found a b u v (one_deleted track p x.0 y.0 a b x.1.first.mark y.1.first.mark e) (x.2 ∙ ap (λ k. k + 64) e ∙ sym y.2)
one_look_at track p n (Found a u) NoData x y = absurd (y x.0 a x.1)
one_look_at track p n (Found a u) BadCrc x y =
    let e = one_first track p x.0 y.0 a y.1.0 x.1.first y.1.1.first in
    absurd (y.2 (subst (λ k. IsIntact track k n) e x.3))
one_look_at track p n NoData (Found b v) x y = absurd (x y.0 b y.1)
one_look_at track p n NoData NoData x y = refl
one_look_at track p n NoData BadCrc x y = absurd (x y.0 y.1.0 y.1.1)
one_look_at track p n BadCrc (Found b v) x y =
    let e = one_first track p y.0 x.0 b x.1.0 y.1.first x.1.1.first in
    absurd (x.2 (subst (λ k. IsIntact track k n) e y.3))
one_look_at track p n BadCrc NoData x y = absurd (y x.0 x.1.0 x.1.1)
one_look_at track p n BadCrc BadCrc x y = refl
one_look_at track p n NoMark b x y = absurd x
one_look_at track p n NoSector b x y = absurd x
one_look_at track p n _ _ x y = absurd y

one_address : (track : List ℕ) (key : Chrn) (p r : ℕ) → IsFirstAddress track key p → IsFirstAddress track key r → p ≡ r
one_address track key p r x y =
    elim (cases_order p r) [
      | inl e ↦ e
      | inr (inl h) ↦ absurd (y.none_before p h x.address)
      | inr (inr h) ↦ absurd (x.none_before r h y.address)
    ]

first_looks : (track : List ℕ) (key : Chrn) (a b : Look) → LookFirst track key a → LookFirst track key b → a ≡ b
first_looks track key a b x y =
    let e = one_address track key x.0 y.0 x.1 y.1 in
    one_look_at track y.0 key.n a b (subst (λ p. LookAt track p key.n a) e x.2) y.2

-- the look for a key has only one answer
pub one_look_for : (track : List ℕ) (key : Chrn) (a b : Look) → LookFor track key a → LookFor track key b → a ≡ b
one_look_for track key (Found a u) (Found b v) x y = first_looks track key (Found a u) (Found b v) x y
one_look_for track key (Found a u) NoSector x y = absurd (y.1 x.0 x.1.address)
one_look_for track key (Found a u) NoData x y = first_looks track key (Found a u) NoData x y
one_look_for track key (Found a u) BadCrc x y = first_looks track key (Found a u) BadCrc x y
one_look_for track key NoMark (Found b v) x y = absurd (x (y.0, y.1.address.mark))
one_look_for track key NoMark NoMark x y = refl
one_look_for track key NoMark NoSector x y = absurd (x y.0)
one_look_for track key NoMark NoData x y = absurd (x (y.0, y.1.address.mark))
one_look_for track key NoMark BadCrc x y = absurd (x (y.0, y.1.address.mark))
one_look_for track key NoSector (Found b v) x y = absurd (x.1 y.0 y.1.address)
one_look_for track key NoSector NoMark x y = absurd (y x.0)
one_look_for track key NoSector NoSector x y = refl
one_look_for track key NoSector NoData x y = absurd (x.1 y.0 y.1.address)
one_look_for track key NoSector BadCrc x y = absurd (x.1 y.0 y.1.address)
one_look_for track key NoData (Found b v) x y = first_looks track key NoData (Found b v) x y
one_look_for track key NoData NoSector x y = absurd (y.1 x.0 x.1.address)
one_look_for track key NoData NoData x y = first_looks track key NoData NoData x y
one_look_for track key NoData BadCrc x y = first_looks track key NoData BadCrc x y
one_look_for track key BadCrc (Found b v) x y = first_looks track key BadCrc (Found b v) x y
one_look_for track key BadCrc NoSector x y = absurd (y.1 x.0 x.1.address)
one_look_for track key BadCrc NoData x y = first_looks track key BadCrc NoData x y
one_look_for track key BadCrc BadCrc x y = first_looks track key BadCrc BadCrc x y
one_look_for track key _ NoMark x y = absurd (y (x.0, x.1.address.mark))
