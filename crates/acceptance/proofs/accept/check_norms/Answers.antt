-- The lowest kinds decide the checks.
use Rattle.std.proofs.Common.{◌≡◌, ℕ, ◌<◌, ◌≤◌, sym, true, false, eqb, ltb, get_or, Some, None, rules, tests, arith}
use Rattle.std.proofs.lemmas.Iterator.{first_from_Range}
use Rattle.model.specs.Finite.{both}
use Rattle.model.specs.Field.{at}
use Rattle.model.specs.Limits.{norm_limit}
use Rattle.acceptance.proofs.Acceptances.{missing_stops, over_stops, norms_pass}
use Rattle.acceptance.proofs.accept.check_norms.Goals as goal
use Rattle.acceptance.proofs.accept.check_norms.Goals.{In_default}

-- Where the first search finds nothing: no reached kind is without a norm.
normed : (c : In_default) → (k : ℕ) → k < c.args.kinds → both (get_or c.args.reached.now k false) (eqb (at c.args.norms.now k) 0) ≡ false
normed c =
    let r = c.args.reached.now in
    let w = c.args.norms.now in
    let none = first_from_Range (record { start = 0; end = c.args.kinds }) _ _ None (λ k. both (get_or r k false) (eqb (at w k) 0) ≡ true) (λ k. both (get_or r k false) (eqb (at w k) 0) ≡ false) c.in_default.ensures.ran (λ x q k. search (rules, tests)) (λ x q k. search (rules, tests)) in
    λ k l. none k (omega arith) l

pub returns-in-Some : goal.returns-in-Some
returns-in-Some c =
    let r = c.args.reached.now in
    let w = c.args.norms.now in
    let found = first_from_Range (record { start = 0; end = c.args.kinds }) _ _ (Some c.in-Some.kind) (λ k. both (get_or r k false) (eqb (at w k) 0) ≡ true) (λ k. both (get_or r k false) (eqb (at w k) 0) ≡ false) c.in-Some.ensures.ran (λ x q k. search (rules, tests)) (λ x q k. search (rules, tests)) in
    sym (missing_stops (λ k. get_or r k false) (at w) c.args.kinds c.in-Some.kind found.1 found.2 (λ k l. found.3 k (omega arith) l))

pub returns-in-Some-find : goal.returns-in-Some-find
returns-in-Some-find c =
    let w = c.args.norms.now in
    let found = first_from_Range (record { start = 0; end = c.args.kinds }) _ _ (Some c.in-Some-find.kind) (λ k. ltb norm_limit (at w k) ≡ true) (λ k. ltb norm_limit (at w k) ≡ false) c.in-Some-find.ensures.ran (λ x q k. search (rules, tests)) (λ x q k. search (rules, tests)) in
    sym (over_stops (λ k. get_or c.args.reached.now k false) (at w) c.args.kinds (normed (goal.at.returns-in-Some-find c).In_default) c.in-Some-find.kind found.1 found.2 (λ k l. found.3 k (omega arith) l))

pub returns : goal.returns
returns c =
    let w = c.args.norms.now in
    let few : (k : ℕ) → 0 ≤ k → k < c.args.kinds → ltb norm_limit (at w k) ≡ false = first_from_Range (record { start = 0; end = c.args.kinds }) _ _ None (λ k. ltb norm_limit (at w k) ≡ true) (λ k. ltb norm_limit (at w k) ≡ false) c.in_default-find.ensures.ran (λ x q k. search (rules, tests)) (λ x q k. search (rules, tests)) in
    sym (norms_pass (λ k. get_or c.args.reached.now k false) (at w) c.args.kinds (normed (goal.at.returns c).In_default) (λ k l. few k (omega arith) l))
