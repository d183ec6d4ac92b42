-- Every refusal has a sentence.
use mathlib.Core.Bool.{Bool, true, false}
use mathlib.Core.List.{List, [], ◌∷◌, ◌++◌}
use mathlib.Core.Path.{◌≡◌, subst}
use Prim.Native.Nat.{ℕ, zero, suc, ◌<◌}
use native.Mathlib.Omega.{arith}
use lib.Dec.{eqb, ltb}
use lib.ListN.{length}
use Rattle.model.specs.Finite.{both, concat, list_from, pick}
use Rattle.model.specs.Card.{reached}
use Rattle.model.specs.Limits.{norm_limit}
use Rattle.model.specs.Norm.{kind_norm}
use Rattle.model.specs.Page.{bytes, newline}
use Rattle.model.specs.Refusal.{Check, check, refusal, first_of, header_checks, line_checks, norm_checks, sheet_checks, accept_checks, settle_checks, compare_checks, form_checks, walk_checks, row_checks, shelf_number_checks, shelf_field_checks, squads_checks, frequencies_checks}
use Rattle.model.specs.Sheet.{kind_count, card_of}
use Rattle.sentences.specs.Every.{Said, Every}
use Rattle.sentences.specs.Sentence.{sentences, among, has, named, sentence_of}

-- A check's refusal has a sentence; so has that of each of a list.
abbrev Spoken : Check → Type 0
Spoken x = 0 < length (sentence_of x.number x.place)

abbrev Each : List Check → Type 0
Each [] = Unit
Each (x ∷ xs) = Spoken x × Each xs

each_both : (xs ys : List Check) → Each xs → Each ys → Each (xs ++ ys)
each_both [] ys a b = b
each_both (x ∷ xs) ys a b = (a.0, each_both xs ys a.1 b)

each_from : (f : ℕ → Check) → ((j : ℕ) → Spoken (f j)) → (i m : ℕ) → Each (list_from f i m)
unfolding list_from
each_from f a i zero = tt
each_from f a i (suc m) = (a i, each_from f a (suc i) m)

each_list : (f : ℕ → List Check) → ((j : ℕ) → Each (f j)) → (i m : ℕ) → Each (concat (list_from f i m))
unfolding concat list_from
each_list f a i zero = tt
each_list f a i (suc m) = each_both (f i) (concat (list_from f (suc i) m)) (a i) (each_list f a (suc i) m)

first_said : (xs : List Check) → Each xs → Said xs
unfolding first_of
first_said [] a k p e = let z : ◌≡◌ {A = ℕ} 0 1 = cc in absurd (omega arith)
first_said (x ∷ xs) a k p e = go x.applies (first_said xs a.1 k p) e
  where
    go : (b : Bool) → (first_of xs ≡ refusal k p → 0 < length (sentence_of k p)) → elim b [ true ↦ refusal x.number x.place | false ↦ first_of xs ] ≡ refusal k p
        → 0 < length (sentence_of k p)
    go true r h =
        let n : x.number ≡ k = cc in
        let q : x.place ≡ p = cc in
        subst (λ (m : ℕ). 0 < length (sentence_of m p)) n (subst (λ (m : ℕ). 0 < length (sentence_of x.number m)) q a.0)
    go false r h = r h

-- The checks of each part and call, by computation.
header_each : (s : List ℕ) → Each (header_checks s)
unfolding header_checks sentence_of sentences pick has among named bytes newline
header_each s = (omega arith, (omega arith, (omega arith, (omega arith, (omega arith, (omega arith, (omega arith, (omega arith, (omega arith, tt)))))))))

line_each : (s : List ℕ) → Each (line_checks s)
unfolding line_checks sentence_of sentences pick has among named bytes newline
line_each s = each_list _ (λ j. (omega arith, (omega arith, tt))) 0 _

norm_each : (s : List ℕ) → Each (norm_checks s)
unfolding norm_checks sentence_of sentences pick has among named bytes newline
norm_each s =
    let missing : ℕ → Check = λ k. check 9 k (both (reached (card_of s) k) (eqb (kind_norm (card_of s) k) 0)) in
    let over : ℕ → Check = λ k. check 10 k (both (reached (card_of s) k) (ltb norm_limit (kind_norm (card_of s) k))) in
    each_both (list_from missing 0 (kind_count s)) (list_from over 0 (kind_count s)) (each_from missing (λ k. omega arith) 0 (kind_count s)) (each_from over (λ k. omega arith) 0 (kind_count s))

sheet_each : (s : List ℕ) → Each (sheet_checks s)
unfolding sheet_checks
sheet_each s = each_both (header_checks s) (line_checks s) (header_each s) (line_each s)

accept_each : (s : List ℕ) → Each (accept_checks s)
accept_each s = each_both (sheet_checks s) (norm_checks s) (sheet_each s) (norm_each s)

pub every : Every
unfolding settle_checks row_checks compare_checks form_checks walk_checks shelf_number_checks shelf_field_checks squads_checks frequencies_checks sentence_of sentences pick has among named bytes newline
every =
    record {
      page = λ s. first_said (accept_checks s) (accept_each s);
      settle = λ s size. first_said (settle_checks s size) (each_both (accept_checks s) _ (accept_each s) (omega arith, tt));
      row = λ n k size. first_said (row_checks n k size) (omega arith, (omega arith, (omega arith, tt)));
      compare = λ s i j. first_said (compare_checks s i j) (each_both (accept_checks s) _ (accept_each s) (omega arith, (omega arith, tt)));
      form = λ s i size. first_said (form_checks s i size) (each_both (accept_checks s) _ (accept_each s) (omega arith, (omega arith, tt)));
      walk = λ s i j limit d. first_said (walk_checks s i j limit d) (omega arith, each_both (sheet_checks s) _ (sheet_each s) (omega arith, (omega arith, (omega arith, tt))));
      number = λ s i. first_said (shelf_number_checks s i) (each_both (accept_checks s) _ (accept_each s) (omega arith, (omega arith, tt)));
      field = λ s t x size. first_said (shelf_field_checks s t x size) (each_both (accept_checks s) _ (accept_each s) (omega arith, (omega arith, (omega arith, tt))));
      squads = λ s i j size. first_said (squads_checks s i j size) (each_both (accept_checks s) _ (accept_each s) (omega arith, (omega arith, (omega arith, (omega arith, tt)))));
      frequencies = λ s i t size. first_said (frequencies_checks s i t size) (each_both (accept_checks s) _ (accept_each s) (omega arith, (omega arith, (omega arith, (omega arith, tt)))));
    }
