-- The bytes of keys, in the order in which a format asks for them.
use Rattle.std.specs.Prelude.{ℕ, List, [], ◌∷◌}
use Rattle.flop_base.specs.declared.key.Chrn.{Chrn}
use Rattle.track_model.specs.declared.symbol.Symbol.{Symbol}
use Rattle.track_model.specs.declared.symbol.Symbol.TheVariants.{Byte, Key, Mark}

-- the four bytes of a key
abbrev pub key_bytes : Chrn → List ℕ
key_bytes key = key.c ∷ key.h ∷ key.r ∷ key.n ∷ []

-- the bytes of keys among the symbols of a track: a format asks for them one by one, in this order
unfoldable pub asked_in : List Symbol → List ℕ
asked_in [] = []
asked_in (Byte byte ∷ rest) = asked_in rest
asked_in (Key byte ∷ rest) = byte ∷ asked_in rest
asked_in (Mark cells ∷ rest) = asked_in rest
