-- Calls with the numbers that they take.
use Rattle.std.specs.Prelude.{List, [], ◌∷◌, ℕ}
use Rattle.replies.specs.Told.{Told, no_call}

-- A call with as many numbers as it takes; with fewer or more it is no call.
unfoldable pub with_none : Told → List ℕ → Told
with_none call [] = call
with_none call (_ ∷ _) = no_call

unfoldable pub with_one : (ℕ → Told) → List ℕ → Told
with_one call (x ∷ []) = call x
with_one call [] = no_call
with_one call (_ ∷ _ ∷ _) = no_call

unfoldable pub with_two : (ℕ → ℕ → Told) → List ℕ → Told
with_two call (x ∷ y ∷ []) = call x y
with_two call [] = no_call
with_two call (_ ∷ []) = no_call
with_two call (_ ∷ _ ∷ _ ∷ _) = no_call

-- A call with four numbers and a fifth that may be left out, and is 0 then.
unfoldable pub with_four_or_five : (ℕ → ℕ → ℕ → ℕ → ℕ → Told) → List ℕ → Told
with_four_or_five call (x ∷ y ∷ z ∷ w ∷ []) = call x y z w 0
with_four_or_five call (x ∷ y ∷ z ∷ w ∷ v ∷ []) = call x y z w v
with_four_or_five call [] = no_call
with_four_or_five call (_ ∷ []) = no_call
with_four_or_five call (_ ∷ _ ∷ []) = no_call
with_four_or_five call (_ ∷ _ ∷ _ ∷ []) = no_call
with_four_or_five call (_ ∷ _ ∷ _ ∷ _ ∷ _ ∷ _ ∷ _) = no_call
