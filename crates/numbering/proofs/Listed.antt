-- The list of the kinds below n that have a norm, and the reached kinds of an accepted sheet, which it then is.
use mathlib.Core.Bool.{Bool, true, false}
use mathlib.Core.List.{List, [], ◌∷◌, ◌++◌, append-nil, Memᴰ}
use mathlib.Core.Path.{◌≡◌, sym, ◌∙◌, ap, ap₂, fun_ext}
use Prim.Native.Nat.{ℕ, zero, suc, ◌+◌, ◌≤◌, ◌<◌}
use native.Mathlib.Numerals.{add-one}
use native.Mathlib.Omega.{arith}
use borrow.Author.Tests.{lt-ltb, le-ltb}
use lib.Dec.{T, ltb}
use lib.ListN.{length, length-append, take, set}
use lib.Seq.{take-suc-set, length-take-le}
use Rattle.model.specs.Finite.{keep, list_from, below}
use Rattle.model.specs.Field.{at}
use Rattle.model.specs.Card.{Reached, reached, reached_kinds, reached_count}
use Rattle.model.specs.Limits.{most_kinds}
use Rattle.model.specs.Sheet.{card_of}
use Rattle.theory.proofs.Exec.{Tells, tells_map, tells_lt, keep_on}
use Rattle.theory.proofs.Lists.{mem_from, from_append}
use Rattle.theory.proofs.Order.{get_d_mem, Rises, rises_at}
use Rattle.theory.proofs.Reach.{tells_same}
use Rattle.theory.proofs.Sheets.{tells_reached}
use Rattle.theory.proofs.Shelves.{keep_append}
use Rattle.sheet.specs.declared.reader.Card.{Card}
use Rattle.sheet.proofs.Laws.{card_kinds, kinds_most}
use Rattle.norms.specs.Norms.{Accepts}
use Rattle.norms.proofs.Laws.{norm_positive, norm_reached}
use Rattle.shelf.specs.Kinds.{InOrder}
use Rattle.numbering.specs.Kinds.{normed_kinds}

itself : (b : Bool) → Tells b (T b)
itself b = record { fact = λ t. t; test = λ t. t }

-- The numbers of a run that pass: no more than the run, each one of it, and in number order.
module _ (p : ℕ → Bool) where
  abbrev run : ℕ → ℕ → List ℕ
  run i m = keep p (list_from (λ k. k) i m)

  run_few : (i m : ℕ) → length (run i m) ≤ m
  unfolding keep list_from
  run_few i zero = omega arith
  run_few i (suc m) = go (p i) (run_few (suc i) m)
    where
      go : (b : Bool) → length (run (suc i) m) ≤ m → length {A = ℕ} (elim b as (λ _. List ℕ) [ true ↦ i ∷ run (suc i) m | false ↦ run (suc i) m ]) ≤ suc m
      go true h = omega arith
      go false h = omega arith

  run_within : (i m k : ℕ) → Memᴰ k (run i m) → (i ≤ k) × (k < i + m)
  run_within i m k member =
      let t = mem_from (λ j. j) i m k (keep_on p _ (λ j. itself (p j)) _ k member).0 in
      (omega (arith, t.2), omega (arith, t.1, t.2))

  run_rises : (i m : ℕ) → Rises ◌<◌ (run i m)
  unfolding keep list_from Rises
  run_rises i zero = tt
  run_rises i (suc m) = go (p i) (run_rises (suc i) m)
    where
      go : (b : Bool) → Rises ◌<◌ (run (suc i) m) → Rises ◌<◌ (elim b as (λ _. List ℕ) [ true ↦ i ∷ run (suc i) m | false ↦ run (suc i) m ])
      go true r = ((λ k member. omega (arith, (run_within (suc i) m k member).0)), r)
      go false r = r

-- The kinds below n that have a norm.
module _ (norms : List ℕ) where
  normed_rises : (n : ℕ) → Rises ◌<◌ (normed_kinds n norms)
  unfolding normed_kinds below
  normed_rises n = run_rises (λ k. ltb 0 (at norms k)) 0 n

  normed_few : (n : ℕ) → length (normed_kinds n norms) ≤ n
  unfolding normed_kinds below
  normed_few n = run_few (λ k. ltb 0 (at norms k)) 0 n

  in_order : (n : ℕ) → n ≤ most_kinds → InOrder (normed_kinds n norms)
  unfolding normed_kinds below
  in_order n h = record {
    many = omega (arith, normed_few n);
    under = λ x l. omega (arith, (run_within (λ k. ltb 0 (at norms k)) 0 n _ (get_d_mem (normed_kinds n norms) x 0 l)).1);
    rising = λ x y l m. rises_at ◌<◌ 0 (normed_kinds n norms) x y (normed_rises n) l m;
  }

  normed_next : (k : ℕ) → normed_kinds (k + 1) norms ≡ normed_kinds k norms ++ keep (λ k. ltb 0 (at norms k)) (k ∷ [])
  unfolding normed_kinds below list_from
  normed_next k =
      let z : 0 + k ≡ k = omega arith in
      ap (keep (λ k. ltb 0 (at norms k))) (from_append (λ i. i) 0 k 1 ∙ ap (λ i. list_from (λ i. i) 0 k ++ (i ∷ [])) z)
      ∙ keep_append (λ k. ltb 0 (at norms k)) (list_from (λ i. i) 0 k) (k ∷ [])

  -- Kind k comes to the kinds below it if it has a norm.
  normed_more : (k : ℕ) → 0 < at norms k → normed_kinds (k + 1) norms ≡ normed_kinds k norms ++ (k ∷ [])
  unfolding keep
  normed_more k h = normed_next k ∙ ap (λ b. normed_kinds k norms ++ (elim b as (λ _. List ℕ) [ true ↦ k ∷ [] | false ↦ [] ])) (lt-ltb 0 (at norms k) h)

  normed_skip : (k : ℕ) → at norms k ≡ 0 → normed_kinds (k + 1) norms ≡ normed_kinds k norms
  unfolding keep
  normed_skip k e =
      normed_next k ∙ ap (λ b. normed_kinds k norms ++ (elim b as (λ _. List ℕ) [ true ↦ k ∷ [] | false ↦ [] ])) (le-ltb 0 (at norms k) (omega arith)) ∙ append-nil (normed_kinds k norms)

  -- The first of an array are the kinds below k that have a norm; so they are with kind k stored after them if it has one, and as they are if it has none.
  pub record Stored (k : ℕ) (listed : List ℕ) (count : ℕ) : Type 0 where
    pub many : count ≡ length (normed_kinds k norms)
    pub kinds : take count listed ≡ normed_kinds k norms

  pub stored_more : {listed : List ℕ} {count k : ℕ} → Stored k listed count → count < length listed → 0 < at norms k → Stored (k + 1) (set listed count k) (count + 1)
  stored_more {listed} {count} {k} stored h p =
      let e = normed_more k p in
      record {
        many = omega (arith, ap length e ∙ length-append (normed_kinds k norms) (k ∷ []), stored.many);
        kinds = rw add-one (take-suc-set listed count k h) ∙ ap (λ (xs : List ℕ). xs ++ (k ∷ [])) stored.kinds ∙ sym e;
      }

  pub stored_skip : {listed : List ℕ} {count k : ℕ} → Stored k listed count → at norms k ≡ 0 → Stored (k + 1) listed count
  stored_skip {listed} {count} {k} stored p = let e = sym (normed_skip k p) in record { many = stored.many ∙ ap length e; kinds = stored.kinds ∙ e }

-- Of an accepted sheet these are the reached kinds.
normed_reached : {s : List ℕ} {c : Card} {norms : List ℕ} → Accepts s c norms → normed_kinds c.kinds norms ≡ reached_kinds (card_of s)
unfolding normed_kinds reached_kinds
normed_reached {s} {c} {norms} A =
    ap₂ (λ (p : ℕ → Bool) (n : ℕ). keep p (below n)) (fun_ext (λ k. tells_same (ltb 0 (at norms k)) (reached (card_of s) k) (has k) (tells_reached s A.accepted k))) (sym (card_kinds A.reads))
  where
    has : (k : ℕ) → Tells (ltb 0 (at norms k)) (Reached (card_of s) k)
    has k = tells_map (norm_reached A k) (norm_positive A k) (tells_lt 0 (at norms k))

-- Of an accepted sheet: the kinds that were listed by its norms.
module _ {s : List ℕ} {c : Card} {norms : List ℕ} (A : Accepts s c norms) (listed : List ℕ) (lists : listed ≡ normed_kinds c.kinds norms) where
  pub listed_few : length listed ≤ c.kinds
  listed_few = omega (arith, ap length lists, normed_few norms c.kinds)

  pub listed_are : listed ≡ reached_kinds (card_of s)
  listed_are = lists ∙ normed_reached A

  pub listed_count : length listed ≡ reached_count (card_of s)
  listed_count = ap length listed_are

  pub listed_order : InOrder listed
  listed_order = rw lists (in_order norms c.kinds (kinds_most A.reads))

-- The first of an array of 32, as they are handed to a call.
pub first_long : (kinds : List ℕ) (n : ℕ) → n ≤ most_kinds → length kinds ≡ 32 → n ≡ length (take n kinds)
first_long kinds n h e = sym (length-take-le n kinds (omega arith))
