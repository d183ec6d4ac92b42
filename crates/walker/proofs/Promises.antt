-- What the walk's answer means, proved as the specification states it.
use mathlib.Core.List.{List}
use mathlib.Core.Logic.Iff
use mathlib.Core.Logic.{◌↔◌}
use mathlib.Core.Path.{◌≡◌, refl, sym, ap, ◌∙◌}
use Prim.Native.Nat.{ℕ, ◌+◌, ◌<◌}
use native.Mathlib.Decide.{dec_lt}
use native.Mathlib.Omega.{arith}
use Rattle.theory.specs.Meanings.{Walks}
use Rattle.theory.proofs.Answers.{demand1}
use Rattle.theory.proofs.Meanings.{meanings}
use Rattle.model.specs.Field.{at}
use Rattle.model.specs.Refusal.{Finding, clear, refusal, first_of, walk_checks}
use Rattle.model.specs.Walk.{WalkAnswer, apart, together, spent}
use Rattle.model.specs.Answer.{refused, given, Walked as Model, full_walk, walk_of}
use Rattle.walker.specs.Answers.{answer_of, session_of, walked_of}
use Rattle.walker.specs.Promises.{WalkAnswers, WalkMeans, Promises}
use Rattle.walker.specs.declared.entry.Answer.{Answer}
use Rattle.walker.specs.declared.entry.Answer.TheVariants.{Apart, Together, Spent, Refused}
use Rattle.walker.specs.declared.entry.Session.{Session}
use Rattle.walker.specs.declared.entry.Walked.{Walked}
use Rattle.walker.proofs.Days.{answer_only, day_means}

module _ (s : List ℕ) (i j limit d : ℕ) (before : Session) (walked : Walked) (e : walked_of walked ≡ walk_of s i j limit d (session_of before)) where
  -- The answer is one of the enum's just when the model's is what that one stands for.
  told : (v : Answer) → (walked.answer ≡ v) ↔ ((walk_of s i j limit d (session_of before)).answer ≡ answer_of v)
  told v = let a = ap (λ (m : Model). m.answer) e in (λ h. sym a ∙ ap answer_of h, λ h. answer_only walked.answer v (a ∙ h))

  -- A call that passes the checks is not refused.
  clear_given : first_of (walk_checks s i j limit d) ≡ clear → (k p : ℕ) → ¬ ((walk_of s i j limit d (session_of before)).answer ≡ refused k p)
  clear_given c k p h = go (dec_lt (at before.left d) (full_walk s i j limit).count)
    where
      go : Dec (at before.left d < (full_walk s i j limit).count) → ⊥
      go (yes l) = let g = ((demand1 s).walk_spent i j limit d (session_of before) c).1 l in let z : ◌≡◌ {A = ℕ} 0 1 = cc in omega arith
      go (no n) = let g = (demand1 s).walk_found i j limit d (session_of before) c n in let z : ◌≡◌ {A = ℕ} 0 1 = cc in omega arith

  walk_refused : (k p : ℕ) → (walked.answer ≡ Refused k p) ↔ (first_of (walk_checks s i j limit d) ≡ refusal k p)
  walk_refused k p =
      Iff.trans (told (Refused k p)) (λ h. go (first_of (walk_checks s i j limit d)) refl h, λ c. ap (λ (m : Model). m.answer) ((demand1 s).walk_refused i j limit d (session_of before) k p c))
    where
      go : (f : Finding) → first_of (walk_checks s i j limit d) ≡ f → (walk_of s i j limit d (session_of before)).answer ≡ refused k p → first_of (walk_checks s i j limit d) ≡ refusal k p
      go clear c h = absurd (clear_given c k p h)
      go (refusal m q) c h = let g = ap (λ (w : Model). w.answer) ((demand1 s).walk_refused i j limit d (session_of before) m q c) in cc

  taken : ((k p : ℕ) → ¬ (walked.answer ≡ Refused k p)) ↔ (first_of (walk_checks s i j limit d) ≡ clear)
  taken = (λ n. go n (first_of (walk_checks s i j limit d)) refl, λ c k p h. clear_given c k p ((told (Refused k p)).0 h))
    where
      go : ((k p : ℕ) → ¬ (walked.answer ≡ Refused k p)) → (f : Finding) → first_of (walk_checks s i j limit d) ≡ f → first_of (walk_checks s i j limit d) ≡ clear
      go n clear c = c
      go n (refusal k p) c = absurd (n k p ((walk_refused k p).1 c))

  walk_answers : WalkAnswers s i j limit d before walked
  walk_answers = record {
    refused = walk_refused;
    unchanged = λ k p h.
        let u = e ∙ (demand1 s).walk_refused i j limit d (session_of before) k p ((walk_refused k p).0 h) in
        (ap (λ (m : Model). m.drawn) u, ap (λ (m : Model). record { left = m.after.left }) u);
    no_desk = λ h. (walk_refused 16 0).1 ((demand1 s).walk_desk i j limit d h);
    taken = Iff.trans taken ((demand1 s).walk_taken i j limit d);
    loses =
        let u = (demand1 s).walk_loses i j limit d (session_of before) in
        ap (λ (m : Model). at m.after.left d + m.drawn) e ∙ u;
    others = λ q n. ap (λ (m : Model). at m.after.left q) e ∙ (demand1 s).walk_others i j limit d (session_of before) q n;
  }

  module _ (c : first_of (walk_checks s i j limit d) ≡ clear) where
    walk_spent : (walked.answer ≡ Spent) ↔ (at before.left d < (full_walk s i j limit).count)
    walk_spent = Iff.trans (told Spent) ((demand1 s).walk_spent i j limit d (session_of before) c)

    -- What is found is answered just when the count does not pass the allowance.
    walk_found : (v : Answer) (found : WalkAnswer) → answer_of v ≡ given found → ¬ (found ≡ spent)
        → (walked.answer ≡ v) ↔ ((¬ (at before.left d < (full_walk s i j limit).count)) × ((full_walk s i j limit).found ≡ found))
    walk_found v found is other = (λ h. go h (dec_lt (at before.left d) (full_walk s i j limit).count), λ h. (told v).1 ((demand1 s).walk_found i j limit d (session_of before) c h.0 ∙ ap given h.1 ∙ sym is))
      where
        go : walked.answer ≡ v → Dec (at before.left d < (full_walk s i j limit).count) → (¬ (at before.left d < (full_walk s i j limit).count)) × ((full_walk s i j limit).found ≡ found)
        go h (yes l) =
            let a = (told v).0 h in
            let g = ((demand1 s).walk_spent i j limit d (session_of before) c).1 l in
            let z : found ≡ spent = cc in absurd (other z)
        go h (no n) =
            let a = (told v).0 h in
            let g = (demand1 s).walk_found i j limit d (session_of before) c n in
            (n, cc)

    walk_means : WalkMeans s i j limit d before walked
    walk_means =
        let W : Walks s i j limit = (meanings {0}).walks s i j limit in
        record {
          spent = walk_spent;
          spends = λ h.
              let l = walk_spent.0 h in
              let n = ap (λ (m : Model). m.drawn) e ∙ (demand1 s).walk_draws i j limit d (session_of before) c in
              let u = walk_answers.loses in
              (omega (arith, n, l), omega (arith, n, l, u));
          draws = ap (λ (m : Model). m.drawn) e ∙ (demand1 s).walk_draws i j limit d (session_of before) c;
          apart = λ r.
              let f = walk_found (Apart r) (apart r) refl (λ q. let z : ◌≡◌ {A = ℕ} 0 1 = cc in omega arith) in
              (λ h. let g = (W.apart_iff r).0 (f.0 h).1 in ((f.0 h).0, g.0, g.1, g.2), λ h. f.1 (h.0, (W.apart_iff r).1 (h.1, h.2, h.3)));
          together =
              let f = walk_found Together together refl (λ q. let z : ◌≡◌ {A = ℕ} 0 1 = cc in omega arith) in
              (λ h. ((f.0 h).0, W.together_iff.0 (f.0 h).1), λ h. f.1 (h.0, W.together_iff.1 h.1));
        }

pub promises : Promises
promises = record {
  walk_answers = walk_answers;
  walk_means = λ s i j limit d before walked e there passed first second small.
      walk_means s i j limit d before walked e (((demand1 s).walk_taken i j limit d).1 (there, passed, first, second, small));
  day_means = day_means;
}
