-- Tests of numbers, as the code and the reading write them.
use Rattle.std.proofs.Common.{◌≡◌, ℕ, ◌-◌, ◌<◌, Bool, true, ltb, List, [], ◌∷◌, length, get_or, sym, ap, ◌∙◌, arith, ne_eqb}
use mathlib.Core.List as List
use lib.ListN.{length-map}
use Rattle.std.specs.Prelude.{Option, Some, None, MatchOption, option_map}
use Rattle.std.specs.List.{slice_get}
use Rattle.std.proofs.lemmas.Option.{none-some, slice_get-get_or, slice_get_within, get_or_from_slice_get}
use Rattle.std.proofs.lemmas.List.{get_or-map}
use Rattle.reading.specs.Reading.{rises}

-- a number is above the last of those that a list comes to, if there is no last one or it is above that one
pub rises_by : {A B : Type 0} (now : A → B) (f : B → ℕ) (xs : List B) (v : ℕ) (o : Option A) (b : Bool) (Q : A → Type 0) → option_map now o ≡ slice_get xs (length xs - 1) → MatchOption o (b ≡ true) Q → ((x : A) → Q x → b ≡ ltb (f (now x)) v) → b ≡ rises (List.map f xs) v
unfolding rises
rises_by now f [] v None b Q h t told = t
rises_by now f (x ∷ xs) v None b Q h t told =
    absurd (none-some _ (h ∙ slice_get-get_or (x ∷ xs) (length (x ∷ xs) - 1) x (omega arith)))
rises_by now f xs v (Some y) b Q h t told =
    let lt : length xs - 1 < length xs = slice_get_within xs (length xs - 1) (now y) (sym h) in
    let at : get_or xs (length xs - 1) (now y) ≡ now y = get_or_from_slice_get xs (length xs - 1) (now y) (now y) (sym h) in
    let last : get_or (List.map f xs) (length (List.map f xs) - 1) 0 ≡ f (now y) =
    ap (λ n. get_or (List.map f xs) (n - 1) 0) (length-map xs f) ∙ get_or-map f xs (length xs - 1) (now y) 0 lt ∙ ap f at in
    rw (ne_eqb (length (List.map f xs)) 0 (λ z. omega (arith, length-map xs f)), last) (told y t)
