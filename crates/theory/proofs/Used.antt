-- A sheet that reaches every kind leaves no kind and no line out.
use mathlib.Core.Bool.{Bool, true, false}
use mathlib.Core.List.{List, [], ◌∷◌, Memᴰ}
use mathlib.Core.Path.{◌≡◌, refl, ◌∙◌, ap, fun_ext}
use Prim.Native.Nat.{ℕ, ◌<◌}
use native.Mathlib.Decide.{dec_lt}
use native.Mathlib.Omega.{arith}
use lib.Dec.{T}
use lib.ListN.{length}
use Rattle.model.specs.Finite.{keep, below}
use Rattle.model.specs.Card.{Line, Card, Reached, reached, reached_kinds, reached_lines}
use Rattle.model.specs.Norm.{card_norm, kind_norm}
use Rattle.theory.specs.Meanings.{Used}
use Rattle.model.specs.Sheet.{kind_count, card_of}
use Rattle.model.specs.Refusal.{clear, first_of, sheet_checks}
use Rattle.theory.proofs.Lists.{length_from, mem_below}
use Rattle.theory.proofs.Sweeps.{norm_kind}
use Rattle.theory.proofs.Fewest.{Tame, reach, reached_norm, norm_reached}
use Rattle.theory.proofs.Sheets.{tame}

pub keep_all : {A : Type 0} (p : A → Bool) (xs : List A) → ((x : A) → Memᴰ x xs → T (p x)) → keep p xs ≡ xs
unfolding keep
keep_all p [] f = refl
keep_all {A} p (x ∷ xs) f = go (p x) (f x (Memᴰ.head refl)) (keep_all p xs (λ y m. f y (Memᴰ.tail m)))
  where
    go : (b : Bool) → T b → keep p xs ≡ xs → (elim b as (λ _. List A) [ true ↦ x ∷ keep p xs | false ↦ keep p xs ]) ≡ x ∷ xs
    go true t e = ap (λ (l : List A). x ∷ l) e
    go false t e = absurd t

length_below : (n : ℕ) → length (below n) ≡ n
unfolding below
length_below n = length_from (λ i. i) 0 n

module _ (c : Card) (S : Tame c) (f : (k : ℕ) → k < c.kinds → Reached c k) where
  all_kinds : reached_kinds c ≡ below c.kinds
  unfolding reached_kinds
  all_kinds = keep_all (reached c) (below c.kinds) (λ k m. ((reach c S).test_iff k).1 (f k (mem_below c.kinds k m)))

  all_lines : reached_lines c ≡ c.lines
  unfolding reached_lines
  all_lines = keep_all (λ (l : Line). reached c l.kind) c.lines (λ l o. ((reach c S).test_iff l.kind).1 (f l.kind (S.kinds l o)))

  same_norm : (k : ℕ) → kind_norm c k ≡ card_norm c k
  same_norm k = go (dec_lt k c.kinds) (dec_lt 0 (kind_norm c k)) (dec_lt 0 (card_norm c k))
    where
      go : Dec (k < c.kinds) → Dec (0 < kind_norm c k) → Dec (0 < card_norm c k) → kind_norm c k ≡ card_norm c k
      go (yes h) p q = reached_norm c S k (f k h)
      go (no h) (yes p) q = absurd (h ((reach c S).under k (norm_reached c S k p)))
      go (no h) (no p) (yes q) = absurd (h (norm_kind c k q))
      go (no h) (no p) (no q) = omega arith

  all_used : Used c
  all_used = record { kinds = all_kinds; count = ap length all_kinds ∙ length_below c.kinds; lines = all_lines; norms = fun_ext same_norm }

pub used : (s : List ℕ) → first_of (sheet_checks s) ≡ clear → ((k : ℕ) → k < kind_count s → Reached (card_of s) k) → Used (card_of s)
unfolding card_of
used s e f = all_used (card_of s) (tame s e) f
