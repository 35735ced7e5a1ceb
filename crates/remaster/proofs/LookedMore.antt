-- One more field that was looked at.
use Rattle.std.proofs.Common.{◌≡◌, ℕ, ◌+◌, ◌<◌, List, [], ◌∷◌, ◌++◌, length, map, take, get_or, All, sym, ap, subst, ◌∙◌}
use Rattle.remaster.proofs.Common.{map-append, take_more, All-push, Field, LookedField, field_of, HasLook}

pub fields_more : (fields : List Field) (i : ℕ) (looked after : List LookedField) (one : LookedField) (d : Field) → after ≡ looked ++ one ∷ [] → map field_of looked ≡ take i fields → i < length fields → one.field ≡ get_or fields i d → map field_of after ≡ take (i + 1) fields
fields_more fields i looked after one d e so_far within is =
    ap (map field_of) e ∙ map-append field_of looked (one ∷ [])
    ∙ ap (λ fs. fs ++ one.field ∷ []) so_far
    ∙ ap (λ (field : Field). take i fields ++ field ∷ []) is
    ∙ sym (take_more fields i d within)

pub looks_more : (track : List ℕ) (looked after : List LookedField) (one : LookedField) → after ≡ looked ++ one ∷ [] → All (HasLook track) looked → HasLook track one → All (HasLook track) after
looks_more track looked after one e so_far here = subst (All (HasLook track)) (sym e) (All-push (HasLook track) looked one so_far here)
