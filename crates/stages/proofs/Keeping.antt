-- What is kept of the stages: one stage more, and the forms at the stage before.
-- Assumes nothing.
use mathlib.Core.List.{List}
use mathlib.Core.Path.{◌≡◌, refl, sym, ◌∙◌, fun_ext}
use Prim.Native.Nat.{ℕ, zero, suc, ◌+◌, ◌-◌, ◌*◌, ◌≤◌, ◌<◌}
use native.Mathlib.Decide.{dec_lt, ℕ_discrete}
use native.Mathlib.Omega.{arith}
use borrow.Author.Tests.{eq-eqb, ne_eqb}
use lib.ListN.{length, set, replicate}
use lib.Seq.{get_or-set_same, get_or-set_other}
use Rattle.model.specs.Sense.{Sense}
use Rattle.model.specs.Field.{Field, none, ◌⊕◌, times, unit, at, weigh}
use Rattle.model.specs.Card.{Reached}
use Rattle.model.specs.Norm.{kind_norm}
use Rattle.model.specs.Limits.{most_kinds}
use Rattle.model.specs.Base.{stage_row_in, stage_since_in, stage_form_in}
use Rattle.model.specs.Sheet.{kind_count, card_of}
use Rattle.model.specs.Refusal.{Accepted}
use Rattle.theory.specs.Terms.{OfKinds}
use Rattle.theory.proofs.Field.{unit_same, weigh_next, weigh_past}
use Rattle.theory.proofs.Certified.{Found}
use Rattle.theory.proofs.Reach.{dec_tells}
use Rattle.theory.proofs.Sheets.{certified, tells_reached}
use Rattle.theory.proofs.Since.{row_some, row_between, SinceFound, since_found, since_out, since_one, since_kept, since_changed}
use Rattle.tables.specs.Table.{row_in, row_part, with_row}
use Rattle.tables.proofs.Tables.{at_kind, zero_counts, weigh_fewer, added_tokens, row_added, row_bound, lent_row, lent_length}
use Rattle.tables.proofs.Stores.{with_row_is, with_others}
use Rattle.rows.specs.Stage.{BaseAt}
use Rattle.rows.proofs.Forms.{form_table, form_next, form_atoms, form_past, row_empty, row_atom, atom_stays}
use Rattle.stages.specs.Kept.{AsKept, marked, left, KindKept, KeptFrom, KeptTo, row_before, form_before}

-- What stands for an atom at the stage before.
module _ (since rows : List ℕ) (stage k : ℕ) where
  pub before_new : at since k ≡ stage → row_before since rows stage k ≡ row_in rows k
  unfolding row_before
  before_new e = rw (eq-eqb (at since k) stage e, row_before)

  pub before_old : ¬ (at since k ≡ stage) → row_before since rows stage k ≡ unit k
  unfolding row_before
  before_old n = rw (ne_eqb (at since k) stage n, row_before)

  -- What stands for so many tokens of a kind at the stage before is added to a sum.
  pub added_new : {row : List ℕ} (count : ℕ) (sum new : List ℕ) → at since k ≡ stage → row ≡ row_part rows k → at new ≡ at sum ⊕ times count (at row)
      → at new ≡ at sum ⊕ times count (row_before since rows stage k)
  added_new count sum new e r a = rw (before_new e) (row_added count sum new rows k r a)

  pub added_old : (count : ℕ) (sum : List ℕ) → ¬ (at since k ≡ stage) → k < length sum → at (set sum k (at sum k + count)) ≡ at sum ⊕ times count (row_before since rows stage k)
  added_old count sum n h = rw (before_old n) (added_tokens count sum k h)

  -- The sums fit.
  module _ (count : ℕ) (sum : List ℕ) {bound : ℕ} where
    pub new_fits : {row : List ℕ} → at since k ≡ stage → row ≡ row_part rows k → ((j : ℕ) → at sum j + count * row_before since rows stage k j < bound) → (j : ℕ) → at sum j + count * at row j < bound
    new_fits e r h = row_bound count sum rows k r (rw (before_new e) at h)

    pub old_fits : ¬ (at since k ≡ stage) → ((j : ℕ) → at sum j + count * row_before since rows stage k j < bound) → at sum k + count < bound
    old_fits n h = let z : count * unit k k ≡ count = rw (unit_same k) (omega arith) in omega (arith, rw (before_old n) at h k)

pub row_long : {row : List ℕ} (rows : List ℕ) (k : ℕ) → k * most_kinds + most_kinds ≤ length rows → row ≡ row_part rows k → length row ≡ most_kinds
row_long rows k = lent_length rows k

-- The sum over the first kinds of a form.
pub record Lowered (form since rows : List ℕ) (stage : ℕ) (sum : List ℕ) (k : ℕ) : Type 0 where
  pub within : k ≤ most_kinds
  pub kept : length sum ≡ most_kinds
  pub total : (j : ℕ) → at sum j ≡ weigh k (λ i. row_before since rows stage i j) (at form)

pub lowered_none : {form since rows : List ℕ} {stage : ℕ} → Lowered form since rows stage (replicate most_kinds 0) 0
unfolding weigh
lowered_none = record { within = omega arith; kept = refl; total = zero_counts most_kinds }

module _ {form since rows : List ℕ} {stage : ℕ} {sum : List ℕ} {k : ℕ} (h : Lowered form since rows stage sum k) where
  next_total : (j : ℕ) → at sum j + at form k * row_before since rows stage k j ≡ weigh (k + 1) (λ i. row_before since rows stage i j) (at form)
  next_total j = omega (arith, h.total j, weigh_next k (λ i. row_before since rows stage i j) (at form))

  pub lowered_fits : {bound : ℕ} → k < most_kinds → ((j : ℕ) → form_before since rows stage (at form) j < bound) → (j : ℕ) → at sum j + at form k * row_before since rows stage k j < bound
  unfolding form_before
  lowered_fits l fits j = omega (arith, next_total j, fits j, weigh_fewer (k + 1) most_kinds (λ i. row_before since rows stage i j) (at form) (omega arith))

  pub lowered_more : {new : List ℕ} → k < most_kinds → length new ≡ length sum → at new ≡ at sum ⊕ times (at form k) (row_before since rows stage k) → Lowered form since rows stage new (k + 1)
  lowered_more {new} l e a = record { within = omega arith; kept = e ∙ h.kept; total = λ j. at_kind a j ∙ next_total j }

  pub lowered_all : most_kinds ≤ k → at sum ≡ form_before since rows stage (at form)
  unfolding form_before
  lowered_all l = let z : k ≡ most_kinds = omega (arith, h.within) in fun_ext (λ j. rw z at (h.total j))

-- A kind whose row is another than before; a kind whose row is the same.
module _ (before after : List ℕ) (stage k : ℕ) {since rows : List ℕ} where
  pub kind_new : ¬ (row_in before k ≡ row_in after k) → k < length since → k * most_kinds + most_kinds ≤ length rows → {row newRows : List ℕ} → row ≡ row_part before k → length row ≡ most_kinds
      → newRows ≡ with_row rows k row → KindKept before after stage k since rows (set since k stage) newRows
  kind_new n h l {row} {newRows} r m e = record {
    here = marked n (get_or-set_same since k stage 0 h) (rw e (with_row_is rows row k m l ∙ lent_row before k r));
    others = λ i o. (get_or-set_other since k i stage 0 o, rw e (with_others rows row k m l i o));
  }

  pub kind_left : row_in before k ≡ row_in after k → KindKept before after stage k since rows since rows
  kind_left e = record { here = left e refl refl; others = λ i _. (refl, refl) }

-- One kind more is kept.
module _ {before after : List ℕ} {stage m : ℕ} {since rows oldSince oldRows : List ℕ} (h : KeptFrom before after stage m since rows oldSince oldRows) where
  pub kept_more : {newSince newRows : List ℕ} → KindKept before after stage m oldSince oldRows newSince newRows → KeptFrom before after stage (m + 1) since rows newSince newRows
  kept_more {newSince} {newRows} x = record {
    each = λ k l. go k l (ℕ_discrete k m);
    others = λ k l.
        let o = x.others k (λ e. omega arith) in
        let p = h.others k (omega arith) in
        (o.0 ∙ p.0, o.1 ∙ p.1);
  }
    where
      -- What was kept of the kinds before, and what is kept of this one.
      earlier : {k : ℕ} → (at newSince k ≡ at oldSince k) × (row_in newRows k ≡ row_in oldRows k) → AsKept before after stage k since rows oldSince oldRows → AsKept before after stage k since rows newSince newRows
      earlier o (marked n a b) = marked n (o.0 ∙ a) (o.1 ∙ b)
      earlier o (left e a b) = left e (o.0 ∙ a) (o.1 ∙ b)

      here : {k : ℕ} → (at oldSince k ≡ at since k) × (row_in oldRows k ≡ row_in rows k) → AsKept before after stage k oldSince oldRows newSince newRows → AsKept before after stage k since rows newSince newRows
      here p (marked n a b) = marked n a b
      here p (left e a b) = left e (a ∙ p.0) (b ∙ p.1)

      go : (k : ℕ) → k < m + 1 → Dec (k ≡ m) → AsKept before after stage k since rows newSince newRows
      go k l (yes e) = here (h.others k (omega arith)) (rw e x.here)
      go k l (no e) = earlier (x.others k e) (h.each k (omega arith))

module _ (sense : Sense) (s : List ℕ) (ok : Accepted s) where
  -- Before stage 1 nothing is kept.
  pub kept_start : (rows : List ℕ) → KeptTo sense s 0 (replicate most_kinds 0) rows
  kept_start rows = record {
    marks = λ k _ l. absurd (omega arith);
    none = λ _. zero_counts most_kinds;
    before = λ k q _ e. absurd (omega (arith, zero_counts most_kinds k));
  }

  -- An atom of a stage is one at every later stage.
  pub atom_later : (r p k : ℕ) → k < kind_count s → p ≤ r → stage_row_in sense (card_of s) (suc p) k ≡ unit k → stage_row_in sense (card_of s) (suc r) k ≡ unit k
  atom_later zero p k h l e = let z : p ≡ 0 = omega arith in rw z at e
  atom_later (suc r) p k h l e = go (ℕ_discrete p (suc r)) (λ u. atom_later r p k h u e)
    where
      go : Dec (p ≡ suc r) → (p ≤ r → stage_row_in sense (card_of s) (suc r) k ≡ unit k) → stage_row_in sense (card_of s) (suc (suc r)) k ≡ unit k
      go (yes z) f = rw z at e
      go (no n) f = atom_stays sense (card_of s) (certified s ok) r k (f (omega arith))

  abbrev F : Found (card_of s) (kind_norm (card_of s))
  F = certified s ok

  -- One stage more. Before stage 1 all rows are empty.
  module _ (t : ℕ) {kinds : ℕ} {before after since rows newSince newRows : List ℕ} (K : KeptTo sense s t since rows) (B : BaseAt sense s (suc t) after)
      (P : (q : ℕ) → t ≡ suc q → BaseAt sense s (suc q) before) (Z : t ≡ 0 → (k : ℕ) → row_in before k ≡ none)
      (X : KeptFrom before after (suc t) kinds since rows newSince newRows) where
    pub kept_stage : kind_count s ≡ kinds → KeptTo sense s (suc t) newSince newRows
    kept_stage all = record {
      marks = λ k h _. mark k h t refl (is k h) (dec_tells _ (tells_reached s ok k));
      none = λ e. absurd (omega arith);
      before = λ k q h e. row_before_is k q h e (is k h);
    }
      where
        is : (k : ℕ) → k < kind_count s → AsKept before after (suc t) k since rows newSince newRows
        is k h = X.each k (omega arith)

        mark : (k : ℕ) → k < kind_count s → (q : ℕ) → t ≡ q → AsKept before after (suc t) k since rows newSince newRows → Dec (Reached (card_of s) k)
            → at newSince k ≡ stage_since_in sense (card_of s) (suc t) k
        mark k h zero e (marked n a _) (yes v) = rw e (a ∙ rw e (sym (since_one sense (card_of s) F k v)))
        mark k h zero e (marked n a _) (no o) = absurd (n (Z e k ∙ sym (row_empty sense (card_of s) F t k o) ∙ sym (B k h)))
        mark k h zero e (left same a _) (yes v) = absurd (row_some sense (card_of s) F t k v (sym (B k h) ∙ sym same ∙ Z e k))
        mark k h zero e (left same a _) (no o) = a ∙ K.none e k ∙ sym (since_out sense (card_of s) F (suc t) k o)
        mark k h (suc q) e (marked n a _) d =
            rw e (a ∙ rw e (sym (since_changed sense (card_of s) F q k (λ x. n (P q e k h ∙ sym x ∙ sym (rw e at (B k h)))))))
        mark k h (suc q) e (left same a _) d =
            a ∙ K.marks k h (omega arith) ∙ rw e (sym (since_kept sense (card_of s) F q k (sym (rw e at (B k h)) ∙ sym same ∙ P q e k h)))

        row_before_is : (k q : ℕ) → k < kind_count s → at newSince k ≡ suc (suc q) → AsKept before after (suc t) k since rows newSince newRows → row_in newRows k ≡ stage_row_in sense (card_of s) (suc q) k
        row_before_is k q h e (marked n a b) = b ∙ P q (omega (arith, a)) k h
        row_before_is k q h e (left same a b) = b ∙ K.before k q h (sym a ∙ e)

  -- What stands for an atom of stage q + 2 at stage q + 1 is its row there.
  module _ (t : ℕ) {since rows : List ℕ} (K : KeptTo sense s t since rows) (q : ℕ) (l : suc (suc q) ≤ t) where
    before_row : (k : ℕ) → k < kind_count s → stage_row_in sense (card_of s) (suc (suc q)) k ≡ unit k → row_before since rows (suc (suc q)) k ≡ stage_row_in sense (card_of s) (suc q) k
    before_row k h a = go (ℕ_discrete (at since k) (suc (suc q)))
      where
        -- An atom that is not new has the mark of an earlier stage, and its row since then.
        old : (u : ℕ) → t ≡ suc u → ¬ (at since k ≡ suc (suc q)) → stage_row_in sense (card_of s) (suc q) k ≡ unit k
        old u e n = side (since_found sense (card_of s) F u k (row_atom sense (card_of s) F (suc q) k a))
          where
            last : stage_row_in sense (card_of s) (suc u) k ≡ unit k
            last = atom_later u (suc q) k h (omega arith) a

            mark : at since k ≡ stage_since_in sense (card_of s) (suc u) k
            mark = rw e at (K.marks k h (omega arith))

            side : (p : ℕ) × SinceFound sense (card_of s) F u k p → stage_row_in sense (card_of s) (suc q) k ≡ unit k
            side (p, x) = order (dec_lt q p)
              where
                late : Dec (suc q < p) → q < p → ⊥
                late (yes i) l = x.first (suc q) i (a ∙ sym last)
                late (no i) l = n (omega (arith, mark, x.is))

                order : Dec (q < p) → stage_row_in sense (card_of s) (suc q) k ≡ unit k
                order (yes i) = absurd (late (dec_lt (suc q) p) i)
                order (no i) = row_between sense (card_of s) F k (row_atom sense (card_of s) F (suc q) k a) p u x.same q (omega arith) (omega arith) ∙ last

        go : Dec (at since k ≡ suc (suc q)) → row_before since rows (suc (suc q)) k ≡ stage_row_in sense (card_of s) (suc q) k
        go (yes e) = before_new since rows (suc (suc q)) k e ∙ K.before k q h e
        go (no n) = before_old since rows (suc (suc q)) k n ∙ sym (old (t - 1) (omega arith) n)

    -- The form at the stage before, from that at a stage and what is kept.
    pub before_form : kind_count s ≤ most_kinds → (a : Field) → OfKinds (card_of s) a
        → form_before since rows (suc (suc q)) (stage_form_in sense (card_of s) (suc (suc q)) a) ≡ stage_form_in sense (card_of s) (suc q) a
    unfolding form_before card_of
    before_form few a u = fun_ext (λ j. short j ∙ form_table sense (card_of s) (certified s ok) q (row_before since rows (suc (suc q))) form (λ k h p. before_row k h (form_atoms sense (card_of s) (certified s ok) (suc q) a u k p).1) j) ∙ form_next sense (card_of s) (certified s ok) q a
      where
        form : Field
        form = stage_form_in sense (card_of s) (suc (suc q)) a

        short : (j : ℕ) → weigh most_kinds (λ k. row_before since rows (suc (suc q)) k j) form ≡ weigh (kind_count s) (λ k. row_before since rows (suc (suc q)) k j) form
        short j = weigh_past most_kinds (kind_count s) (λ k. row_before since rows (suc (suc q)) k j) form few (form_past sense (card_of s) (certified s ok) (suc q) a)
