-- Norms found with every value cut at one past a limit are the norms so cut: none becomes missing, and none under the limit changes.
use mathlib.Core.Bool.{Bool, true, false}
use mathlib.Core.List.{List, [], ◌∷◌}
use mathlib.Core.Path.{◌≡◌, refl, sym, ◌∙◌, ap, ap₂, fun_ext}
use Prim.Native.Nat.{ℕ, zero, suc, ◌+◌, ◌*◌, ◌≤◌, ◌<◌, min}
use native.Mathlib.Decide.{dec_lt, dec_le}
use native.Mathlib.Nat.{mul-le-mul_left, mul-le-mul_right}
use native.Mathlib.Omega.{arith}
use lib.Dec.{eqb}
use lib.ListN.{get_or}
use Rattle.model.specs.Finite.{both, list_from}
use Rattle.model.specs.Field.{Field, weigh, at}
use Rattle.model.specs.Card.{Line, Card}
use Rattle.model.specs.Norm.{ready, sooner, best, sweeps, card_norm}
use Rattle.theory.proofs.Exec.{Tells, tells_map, tells_eq}
use Rattle.theory.proofs.Lists.{get_d_from, get_d_past}
use Rattle.theory.proofs.Reach.{tells_same}
use Rattle.theory.proofs.Sweeps.{tells_ready}

module _ (limit : ℕ) where
  abbrev pub cut : ℕ → ℕ
  cut x = min x (suc limit)

  -- Sums of cut values, cut, are sums of values, cut.
  pub weigh_cut : (n : ℕ) (w : ℕ → ℕ) (a : Field) → cut (weigh n (λ k. cut (w k)) a) ≡ cut (weigh n w a)
  unfolding weigh
  weigh_cut zero w a = refl
  weigh_cut (suc m) w a = go (dec_lt 0 (a m)) (dec_le (w m) (suc limit)) (weigh_cut m w a)
    where
      x : ℕ
      x = weigh m (λ k. cut (w k)) a

      y : ℕ
      y = weigh m w a

      go : Dec (0 < a m) → Dec (w m ≤ suc limit) → cut x ≡ cut y → cut (x + a m * cut (w m)) ≡ cut (y + a m * w m)
      go (no p) d e = let z : a m ≡ 0 = omega arith in rw z (omega arith)
      go (yes p) (yes d) e = let z : cut (w m) ≡ w m = omega arith in rw z (omega arith)
      go (yes p) (no d) e =
          let z : cut (w m) ≡ suc limit = omega arith in
          let u : suc limit ≤ a m * suc limit = omega (arith, mul-le-mul_right (suc limit) p) in
          let v : a m * suc limit ≤ a m * w m = mul-le-mul_left (a m) (omega arith) in
          rw z (omega arith)

  cut_min : (x y : ℕ) → cut (min x y) ≡ min (cut x) (cut y)
  cut_min x y = omega arith

  sooner_cut : (x y u v : ℕ) → 0 < x → 0 < u → cut x ≡ cut u → cut y ≡ cut v → cut (sooner x y) ≡ cut (sooner u v)
  sooner_cut x y u v p q e d = go (eqb y 0) (tells_eq y 0) (eqb v 0) (tells_eq v 0)
    where
      go : (b : Bool) → Tells b (y ≡ 0) → (c : Bool) → Tells c (v ≡ 0)
          → cut (elim b as (λ _. ℕ) [ true ↦ x | false ↦ min x y ]) ≡ cut (elim c as (λ _. ℕ) [ true ↦ u | false ↦ min u v ])
      go true s true t = e
      go true s false t = let z = s.fact tt in absurd (t.test (omega arith))
      go false s true t = let z = t.fact tt in absurd (s.test (omega arith))
      go false s false t = cut_min x y ∙ ap₂ min e d ∙ sym (cut_min u v)

  ready_cut : (n : ℕ) (w : ℕ → ℕ) (a : Field) → ready n (λ k. cut (w k)) a ≡ ready n w a
  ready_cut n w a = tells_same (ready n (λ k. cut (w k)) a) (ready n w a) (tells_ready n (λ k. cut (w k)) a)
      (tells_map (λ f k h q. pos (w k) (f k h q)) (λ f k h q. back (w k) (f k h q)) (tells_ready n w a))
    where
      pos : (x : ℕ) → 0 < x → 0 < cut x
      pos x h = omega arith

      back : (x : ℕ) → 0 < cut x → 0 < x
      back x h = omega arith

  best_cut_is : (n : ℕ) (w : ℕ → ℕ) (k : ℕ) (ls : List Line) → cut (best n (λ j. cut (w j)) k ls) ≡ cut (best n w k ls)
  unfolding best
  best_cut_is n w k [] = refl
  best_cut_is n w k (l ∷ ls) =
      go (both (eqb l.kind k) (ready n (λ j. cut (w j)) l.left)) (both (eqb l.kind k) (ready n w l.left))
      (ap (both (eqb l.kind k)) (ready_cut n w l.left)) (best_cut_is n w k ls)
    where
      go : (b d : Bool) → b ≡ d → cut (best n (λ j. cut (w j)) k ls) ≡ cut (best n w k ls)
          → cut (elim b as (λ _. ℕ) [ true ↦ sooner (suc (weigh n (λ j. cut (w j)) l.left)) (best n (λ j. cut (w j)) k ls) | false ↦ best n (λ j. cut (w j)) k ls ])
          ≡ cut (elim d as (λ _. ℕ) [ true ↦ sooner (suc (weigh n w l.left)) (best n w k ls) | false ↦ best n w k ls ])
      go true true i e =
          sooner_cut (suc (weigh n (λ j. cut (w j)) l.left)) (best n (λ j. cut (w j)) k ls) (suc (weigh n w l.left)) (best n w k ls) (omega arith) (omega arith)
          (omega (arith, weigh_cut n w l.left)) e
      go true false i e = cc
      go false true i e = cc
      go false false i e = e

  -- What a program keeps: each sweep's values, cut.
  unfoldable pub cut_sweeps : Card → ℕ → List ℕ
  cut_sweeps c zero = []
  cut_sweeps c (suc d) = let t = cut_sweeps c d in list_from (λ k. cut (best c.kinds (at t) k c.lines)) 0 c.kinds

  pub cut_sweeps_is : (c : Card) (d k : ℕ) → at (cut_sweeps c d) k ≡ cut (at (sweeps c d) k)
  unfolding cut_sweeps sweeps
  cut_sweeps_is c zero k = omega arith
  cut_sweeps_is c (suc d) k = go (dec_lt k c.kinds) (fun_ext (λ j. cut_sweeps_is c d j))
    where
      zero_cut : 0 ≡ cut 0
      zero_cut = omega arith

      f : ℕ → ℕ
      f k = cut (best c.kinds (at (cut_sweeps c d)) k c.lines)

      g : ℕ → ℕ
      g k = best c.kinds (at (sweeps c d)) k c.lines

      go : Dec (k < c.kinds) → at (cut_sweeps c d) ≡ (λ j. cut (at (sweeps c d) j)) → get_or (list_from f 0 c.kinds) k 0 ≡ cut (get_or (list_from g 0 c.kinds) k 0)
      go (yes h) e =
          get_d_from f 0 c.kinds k 0 h ∙ ap (λ (v : ℕ → ℕ). cut (best c.kinds v (0 + k) c.lines)) e ∙ best_cut_is c.kinds (at (sweeps c d)) (0 + k) c.lines
          ∙ ap cut (sym (get_d_from g 0 c.kinds k 0 h))
      go (no h) e = get_d_past f 0 c.kinds k 0 (omega arith) ∙ zero_cut ∙ ap cut (sym (get_d_past g 0 c.kinds k 0 (omega arith)))

  pub cut_norm : (c : Card) (k : ℕ) → at (cut_sweeps c c.kinds) k ≡ cut (card_norm c k)
  unfolding card_norm
  cut_norm c k = cut_sweeps_is c c.kinds k
