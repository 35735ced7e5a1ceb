-- Tracks that show the same: they may differ only in contents, and not in anything else that answers depend on.
use Rattle.std.proofs.Common.{◌≡◌, ◌↔◌, ℕ, Bool, List, sym, subst}
use Rattle.laws_program.proofs.Common.{Chrn, Look, Found, NoMark, NoSector, NoData, BadCrc, IsAddressAt, LookAt, HasAddressMark, IsRegular, one_look_at, HasNothing}

-- the look at an address field has this answer, wherever its content stands
abbrev pub Shows : List ℕ → ℕ → ℕ → Look → Type 0
Shows track p n (Found deleted place) = (q : ℕ) × LookAt track p n (Found deleted q)
Shows track p n NoData = LookAt track p n NoData
Shows track p n BadCrc = LookAt track p n BadCrc
Shows track p n _ = ⊥

-- two tracks show the same
pub record ShowSame (one two : List ℕ) : Type 0 where
  pub regular : (c h : ℕ) → IsRegular one c h ↔ IsRegular two c h
  pub marks : HasAddressMark one ↔ HasAddressMark two
  pub addresses : (p : ℕ) (key : Chrn) → IsAddressAt one p key ↔ IsAddressAt two p key
  pub looks : (p : ℕ) (key : Chrn) (look : Look) → IsAddressAt one p key → Shows one p key.n look ↔ Shows two p key.n look

pub show_itself : (track : List ℕ) → ShowSame track track
show_itself track = record {
  regular = λ c h. (λ x. x, λ x. x);
  marks = (λ x. x, λ x. x);
  addresses = λ p key. (λ x. x, λ x. x);
  looks = λ p key look at. (λ x. x, λ x. x);
}

pub same_show : (one two : List ℕ) → two ≡ one → ShowSame one two
same_show one two same = subst (λ (track : List ℕ). ShowSame one track) (sym same) (show_itself one)

-- tracks with nothing recorded are regular, and show the same
pub none_regular : (track : List ℕ) (c h : ℕ) → HasNothing track → IsRegular track c h
none_regular track c h none = record {
  plain = λ p mark. absurd (none.marks (p, mark));
  keys = record {
    distinct = λ p q key at other. absurd (none.addresses p key at);
    cylinder = λ p key at. absurd (none.addresses p key at);
    head = λ p key at. absurd (none.addresses p key at);
    coded = λ p key at. absurd (none.addresses p key at);
  };
  spans = record {
    inside = λ p key at. absurd (none.addresses p key at);
    apart = λ p q key other at next before. absurd (none.addresses p key at);
  };
  gaps = λ p q key at from below mark. absurd (none.addresses p key at);
  ends = λ p q key at from below mark. absurd (none.addresses p key at);
}

pub none_show : (one two : List ℕ) → HasNothing one → HasNothing two → ShowSame one two
none_show one two first second = record {
  regular = λ c h. (λ x. none_regular two c h second, λ x. none_regular one c h first);
  marks = (λ mark. absurd (first.marks mark), λ mark. absurd (second.marks mark));
  addresses = λ p key. (λ at. absurd (first.addresses p key at), λ at. absurd (second.addresses p key at));
  looks = λ p key look at. absurd (first.addresses p key at);
}

-- ---- a track shows only one thing of an address field

-- two looks have the same answer, wherever the content stands
abbrev pub SameAnswer : Look → Look → Type 0
SameAnswer (Found a p) (Found b q) = a ≡ b
SameAnswer NoData NoData = Unit {0}
SameAnswer BadCrc BadCrc = Unit {0}
SameAnswer _ _ = ⊥

found_found : (a b : Bool) (p q : ℕ) → Found a p ≡ Found b q → a ≡ b
found_found a b p q e = cc e

pub one_answer : (track : List ℕ) (p n : ℕ) (a b : Look) → Shows track p n a → Shows track p n b → SameAnswer a b
one_answer track p n (Found a u) (Found b v) x y = found_found a b x.0 y.0 (one_look_at track p n (Found a x.0) (Found b y.0) x.1 y.1)
one_answer track p n (Found a u) NoData x y = let e = one_look_at track p n (Found a x.0) NoData x.1 y in absurd (cc e)
one_answer track p n (Found a u) BadCrc x y = let e = one_look_at track p n (Found a x.0) BadCrc x.1 y in absurd (cc e)
one_answer track p n NoData (Found b v) x y = let e = one_look_at track p n NoData (Found b y.0) x y.1 in absurd (cc e)
one_answer track p n NoData NoData x y = tt
one_answer track p n NoData BadCrc x y = let e = one_look_at track p n NoData BadCrc x y in absurd (cc e)
one_answer track p n BadCrc (Found b v) x y = let e = one_look_at track p n BadCrc (Found b y.0) x y.1 in absurd (cc e)
one_answer track p n BadCrc NoData x y = let e = one_look_at track p n BadCrc NoData x y in absurd (cc e)
one_answer track p n BadCrc BadCrc x y = tt
one_answer track p n NoSector b x y = absurd x
one_answer track p n NoMark b x y = absurd x
one_answer track p n _ _ x y = absurd y

-- a track that shows a look shows each look with the same answer
pub shows_answer : (track : List ℕ) (p n : ℕ) (a b : Look) → SameAnswer a b → Shows track p n a → Shows track p n b
shows_answer track p n (Found a u) (Found b v) same x = (x.0, subst (λ (d : Bool). LookAt track p n (Found d x.0)) same x.1)
shows_answer track p n NoData NoData same x = x
shows_answer track p n BadCrc BadCrc same x = x
shows_answer track p n NoSector b same x = absurd x
shows_answer track p n NoMark b same x = absurd x
shows_answer track p n _ _ same x = absurd same

-- two tracks that show the same answer at an address field show the same there
pub show_answer : (one two : List ℕ) (p n : ℕ) (a b look : Look) → Shows one p n a → Shows two p n b → SameAnswer a b → Shows one p n look → Shows two p n look
show_answer one two p n a b look first second same x =
    shows_answer two p n a look (one_answer one p n a look first x) (shows_answer two p n b a (back a b same) second)
  where
    back : (x y : Look) → SameAnswer x y → SameAnswer y x
    back (Found a p) (Found b q) e = sym e
    back NoData NoData e = tt
    back BadCrc BadCrc e = tt
    back _ _ e = absurd e
