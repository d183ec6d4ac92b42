-- What a program that settles a card tests, in the model's words and in each sense: equal forms for related fields, and few candidates for a row.
use mathlib.Core.Bool.{Bool, true, false}
use mathlib.Core.Logic.{◌↔◌, ◌⊎◌, inl, inr}
use mathlib.Core.Path.{◌≡◌, refl, sym, ◌∙◌, ap, fun_ext}
use Prim.Native.Nat.{ℕ, suc, ◌+◌, ◌*◌, ◌<◌}
use native.Mathlib.Decide.{dec_lt}
use native.Mathlib.Omega.{arith}
use lib.Dec.{T}
use Rattle.model.specs.Field.{Field, none, ◌⊕◌, unit, weigh}
use Rattle.model.specs.Card.{Line, Card, On, reached, Reached, fire}
use Rattle.model.specs.Norm.{norm_by}
use Rattle.theory.specs.Expansion.{Expands}
use Rattle.model.specs.Sense.{Sense}
use Rattle.theory.specs.Stages.{Lowers, Start}
use Rattle.model.specs.Stage.{equal_in, stage_in}
use Rattle.model.specs.Base.{earlier, row, form_at}
use Rattle.theory.specs.Terms.{OfKinds, OnReached}
use Rattle.theory.proofs.Field.{weigh_each}
use Rattle.theory.proofs.Moves.{expands_map, weigh_fire}
use Rattle.theory.proofs.Normed.{Normed}
use Rattle.theory.proofs.Stages.{Stage, level, level_cong}
use Rattle.theory.proofs.Rank.{Within}
use Rattle.theory.proofs.Consequences.{stage_down}
use Rattle.theory.proofs.Base.{Base, Prime, Atom, Made, form}
use Rattle.theory.proofs.Unique.{form_iff, candidate}
use Rattle.theory.proofs.Settle.{tidy_within}
use Rattle.theory.proofs.Decide.{Finite}
use Rattle.theory.proofs.Count.{past, past_whole, level_low, level_base}
use Rattle.theory.proofs.Exec.{Tells}
use Rattle.theory.proofs.Certified.{Found, under, left_reached}
use Rattle.theory.proofs.Reach.{fire_kinds}
use Rattle.theory.proofs.Rows.{finite, tells_earlier, row_is, row_out, form_is}
use Rattle.theory.proofs.Senses.{weight_of, normed_in, zeroth, tidy, tells_start, tells_in, stages}

module _ (m : Sense) (c : Card) (w : ℕ → ℕ) (F : Found c w) where
  abbrev pub N : Normed
  N = normed_in m c w F

  abbrev pub fin : Finite N.on
  fin = finite c w (weight_of m) F (equal_in m c w) (tells_start m c w F)

  -- The form of a field at stage q + 1; two fields of equal forms.
  abbrev pub form_by : ℕ → Field → Field
  form_by q a = form_at c w (stage_in m c w) (suc q) a

  abbrev pub Equal : ℕ → Field → Field → Type 0
  Equal q a b = form_by q a ≡ form_by q b

  abbrev pub row_by : ℕ → ℕ → Field
  row_by q k = row c w (stage_in m c w) (suc q) k

  pub theirs : (q : ℕ) (a : Field) → OfKinds c a → form_by q a ≡ form N (level N q) (past N fin) (level_base N fin q) a
  unfolding stage_in
  theirs q a u = form_is c w (weight_of m) F (equal_in m c w) (tells_start m c w F) q a u

  row_of : (q k : ℕ) → Reached c k → row_by q k ≡ (level_base N fin q).row k
  unfolding stage_in
  row_of q k h = row_is c w (weight_of m) F (equal_in m c w) (tells_start m c w F) q k h

  tells_level : (q : ℕ) (a b : Field) → Tells (stage_in m c w (suc q) a b) (level N q a b)
  unfolding Stage
  tells_level q a b = tells_in m c w F (suc q) a b

  -- A stage from 1 up relates the fields of equal forms.
  pub stage_forms : (q : ℕ) (a b : Field) → OfKinds c a → OfKinds c b → T (stage_in m c w (suc q) a b) ↔ Equal q a b
  stage_forms q a b u v = (
    (λ t. theirs q a u ∙ i.0 ((tells_level q a b).fact t) ∙ sym (theirs q b v)),
    (λ e. (tells_level q a b).test (i.1 (sym (theirs q a u) ∙ e ∙ theirs q b v))),
  )
    where
      within : (x : Field) → OfKinds c x → Within N (past N fin) x
      within x f = tidy_within N (past N fin) (past_whole N fin) x (tidy m c w F x f)

      i : level N q a b ↔ (form N (level N q) (past N fin) (level_base N fin q) a ≡ form N (level N q) (past N fin) (level_base N fin q) b)
      i = form_iff N (level N q) (past N fin) (level_base N fin q) (level_cong N q) (level_low N fin q) a b (within a u) (within b v)

  -- Fields of equal forms are alike at stage 0: equal norms, and in the finer sense equal totals.
  pub equal_start : (q : ℕ) (a b : Field) → OfKinds c a → OfKinds c b → Equal q a b → Start m c w a b
  equal_start q a b u v e =
      (zeroth m c w F a b).0 (stage_down N (suc q) 0 a b (omega arith) ((tells_in m c w F (suc q) a b).fact ((stage_forms q a b u v).1 e)))

  -- So expansion in a stage is expansion in equal forms, by all lines or by those that lower the norm.
  module _ (L : Line → Type 0) (in_card : (l : Line) → L l → On c l) (q : ℕ) (a b : Field) (u : OfKinds c a) (v : OfKinds c b) where
    abbrev Related : Field → Field → Type 0
    Related x y = T (stage_in m c w (suc q) x y)

    pub expands_forms : Expands L Related a b ↔ Expands L (Equal q) a b
    expands_forms = (
      expands_map L Related (Equal q) a b (λ l n o h p i. (stage_forms q _ _ (fire_kinds c l a (in_card l o, u l.kind h) u) (fire_kinds c n b (in_card n p, v n.kind i) v)).0),
      expands_map L (Equal q) Related a b (λ l n o h p i. (stage_forms q _ _ (fire_kinds c l a (in_card l o, u l.kind h) u) (fire_kinds c n b (in_card n p, v n.kind i) v)).1),
    )

  module _ (a b : Field) (u : OfKinds c a) (v : OfKinds c b) where
    -- The test of a pair at stage 1, and at each later stage from the forms of the stage before.
    pub test_one : Equal 0 a b ↔ (Start m c w a b × Expands (Lowers c w) (Equal 0) a b)
    test_one =
        let f = stage_forms 0 a b u v in
        let e = expands_forms (Lowers c w) (λ l o. o.0.0) 0 a b u v in
        let S = stages m c w F in (
          (λ x. let y = (S.one a b u v).0 (f.1 x) in ((S.start a b u v).0 y.0, e.0 y.1)),
          (λ x. f.0 ((S.one a b u v).1 ((S.start a b u v).1 x.0, e.1 x.1))),
        )

    pub test_next : (q : ℕ) → Equal (suc q) a b ↔ (Equal q a b × Expands (On c) (Equal q) a b × Expands (Lowers c w) (Equal (suc q)) a b)
    test_next q =
        let f = stage_forms (suc q) a b u v in
        let g = stage_forms q a b u v in
        let d = expands_forms (On c) (λ l o. o) q a b u v in
        let e = expands_forms (Lowers c w) (λ l o. o.0.0) (suc q) a b u v in
        let S = stages m c w F in (
          (λ x. let y = (S.next q a b u v).0 (f.1 x) in (g.0 y.0, d.0 y.1, e.0 y.2)),
          (λ x. f.0 ((S.next q a b u v).1 (g.1 x.0, d.1 x.1, e.1 x.2))),
        )

  -- What a line does to a form, and when two lines leave equal forms where the forms were equal: that depends on the lines alone.
  pub form_fire : (q : ℕ) (l : Line) (a : Field) → On c l → 0 < a l.kind → (j : ℕ) → form_by q (fire l a) j + row_by q l.kind j ≡ form_by q a j + form_by q l.left j
  unfolding form_at
  form_fire q l a o h j = weigh_fire c.kinds (λ k. row_by q k j) l a (F.kinds l o) h

  pub effects : (q : ℕ) (l n : Line) (a b : Field) → On c l → On c n → 0 < a l.kind → 0 < b n.kind → Equal q a b
      → Equal q (fire l a) (fire n b) ↔ (form_by q l.left ⊕ row_by q n.kind ≡ form_by q n.left ⊕ row_by q l.kind)
  effects q l n a b o p h i e = (
    (λ x. fun_ext (λ j. omega (arith, form_fire q l a o h j, form_fire q n b p i j, ap (λ (f : Field). f j) e, ap (λ (f : Field). f j) x))),
    (λ x. fun_ext (λ j. omega (arith, form_fire q l a o h j, form_fire q n b p i j, ap (λ (f : Field). f j) e, ap (λ (f : Field). f j) x))),
  )

  -- The tokens of reached kinds: the others add nothing to a form or a norm. (So lines of kinds that are out may stand in a table of forms.)
  pub kept : Field → Field
  kept a k = elim (reached c k) [ true ↦ a k | false ↦ 0 ]

  pub kept_kinds : (a : Field) → OfKinds c (kept a)
  unfolding kept
  kept_kinds a k h = go (reached c k) (F.reach.test_iff k).0 h
    where
      go : (b : Bool) → (T b → Reached c k) → 0 < (elim b as (λ _. ℕ) [ true ↦ a k | false ↦ 0 ]) → Reached c k
      go true f q = f tt
      go false f q = absurd (omega arith)

  kept_weigh : (v : ℕ → ℕ) → ((k : ℕ) → ¬ Reached c k → v k ≡ 0) → (a : Field) → weigh c.kinds v (kept a) ≡ weigh c.kinds v a
  unfolding kept
  kept_weigh v z a = weigh_each c.kinds v (kept a) a (λ k. go k (reached c k) (F.reach.test_iff k).1)
    where
      go : (k : ℕ) (b : Bool) → (Reached c k → T b) → (elim b as (λ _. ℕ) [ true ↦ a k | false ↦ 0 ]) * v k ≡ a k * v k
      go k true f = refl
      go k false f = let e = z k (λ x. absurd (f x)) in rw e (omega arith)

  pub kept_norm : (a : Field) → norm_by c w (kept a) ≡ norm_by c w a
  kept_norm a = kept_weigh w (λ k n. out k n (dec_lt 0 (w k))) a
    where
      out : (k : ℕ) → ¬ Reached c k → Dec (0 < w k) → w k ≡ 0
      out k n (yes h) = absurd (n (F.out k h))
      out k n (no h) = omega arith

  pub row_none : (q k : ℕ) → ¬ Reached c k → row_by q k ≡ none
  unfolding stage_in
  row_none q k n = row_out c w (weight_of m) F (equal_in m c w) (tells_start m c w F) (suc q) k n

  pub kept_form : (q : ℕ) (a : Field) → form_by q (kept a) ≡ form_by q a
  unfolding form_at
  kept_form q a = fun_ext (λ j. kept_weigh (λ k. row_by q k j) (λ k n. ap (λ (x : Field). x j) (row_none q k n)) a)

  -- The candidates: whatever line l of a kind that lowers the norm is asked, if the kind is no atom its row is told by l and by a line of an
  -- earlier atom, of l's code, that lowers the norm.
  pub record Candidate (q k : ℕ) (l : Line) : Type 0 where
    pub line : Line
    pub lowers : Lowers c w line
    pub before : T (earlier w line.kind k)
    pub own : row_by q line.kind ≡ unit line.kind
    pub code : line.code ≡ l.code
    pub row_told : row_by q k ⊕ form_by q line.left ≡ unit line.kind ⊕ form_by q l.left

  pub row_candidate : (q k : ℕ) → Reached c k → ¬ (row_by q k ≡ unit k) → (l : Line) → Lowers c w l → l.kind ≡ k → Candidate q k l
  row_candidate q k v n l o e = go (D.sort k h (F.positive k v) (past_whole N fin k h))
    where
      h : k < c.kinds
      h = under c w F k v

      kinds : (x : Line) → OnReached c x → OfKinds c x.left
      kinds x i j p = left_reached c w F x i j p

      R : Field → Field → Type 0
      R = level N q

      D : Base N R (past N fin)
      D = level_base N fin q

      go : (Atom D.row k × Prime N R k) ⊎ Made N D.row k → Candidate q k l
      go (inl p) = absurd (n (row_of q k v ∙ p.0))
      go (inr d) =
          let W = past_whole N fin in
          let t = candidate N R (past N fin) D (level_cong N q) (level_low N fin q) k (omega (arith, W k h)) (D.row k)
          ((λ j i. let u = d j i in (u.0, u.1, W j u.0)), (λ j i. (d j i).3)) (D.rel k h (F.positive k v) (W k h)) l o e in
          let y = t.0 in
          let u = d y.kind t.2 in
          record {
            line = y;
            lowers = t.1;
            before = (tells_earlier c w (weight_of m) F (equal_in m c w) (tells_start m c w F) k y.kind h u.0).test u.2;
            own = row_of q y.kind (F.out y.kind u.1) ∙ u.3;
            code = t.3;
            row_told = rw (row_of q k v, theirs q y.left (kinds y t.1.0), theirs q l.left (kinds l o.0)) t.4;
          }
