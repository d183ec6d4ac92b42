-- The search for the row of a kind k: the candidates that its lines tell are set in the table and tested there, one after the other.
use mathlib.Core.Bool.{Bool, true, false}
use mathlib.Core.List.{List}
use mathlib.Core.Logic.{◌↔◌}
use mathlib.Core.Path.{◌≡◌, refl, sym, ap, ◌∙◌}
use Prim.Native.Nat.{ℕ, suc, ◌+◌, ◌*◌, ◌≤◌, ◌<◌}
use borrow.Author.Count.{below_more}
use native.Mathlib.Decide.{ℕ_discrete}
use native.Mathlib.Omega.{arith}
use lib.ListN.{length}
use Rattle.model.specs.Sense.{Sense}
use Rattle.model.specs.Field.{Field, unit, at}
use Rattle.model.specs.Base.{stage_row_in}
use Rattle.model.specs.Limits.{most_kinds}
use Rattle.model.specs.Refusal.{Accepted}
use Rattle.model.specs.Sheet.{line_of, card_of}
use Rattle.theory.specs.Terms.{Earlier}
use Rattle.theory.proofs.Field.{unit_same}
use Rattle.theory.proofs.Base.{unit_some}
use Rattle.theory.proofs.Sheets.{certified}
use Rattle.tables.specs.Table.{row_in, with_row, IsCandidate}
use Rattle.tables.specs.Lines.{lines_in, kind_in}
use Rattle.tables.specs.Match.{Lists, UsableIn}
use Rattle.tables.specs.Class.{Passes}
use Rattle.rows.specs.Stage.{ToldAt, line_kind, LowersAt}
use Rattle.rows.specs.Forms.{OthersKept, RowSet}
use Rattle.rows.specs.Row.{LowersKind, Suits, ToldIn}
use Rattle.rows.specs.StageRows.{StageGiven, RowSought}
use Rattle.tables.proofs.Answers.{not_both}
use Rattle.tables.proofs.Stores.{with_row_is, with_others}
use Rattle.rows.proofs.Forms.{earlier_not}
use Rattle.rows.proofs.Candidates.{Product, TellsNone, no_line_tells}
use Rattle.rows.proofs.RowTests.{ll, lk, told_is, suits_product, suits_form, none_suited, product_narrow, passes_iff}

-- The first of a kind's own lines is one, and there is one.
module _ (lines : List ℕ) {own : List ℕ} {k : ℕ} (L : Lists (UsableIn lines (unit k)) own) where
  pub own_first : 0 < length own → LowersKind lines k (at own 0)
  own_first h = let u = (L.entries (at own 0)).0 (0, h, refl) in (u.0, unit_some k (kind_in lines (at own 0)) u.1)

  pub own_some : ((l : ℕ) × LowersKind lines k l) → 0 < length own
  own_some w = omega (arith, ((L.entries w.0).1 (w.1.0, rw w.1.1 (omega (arith, unit_same k)))).1)

-- The lines before line m are tried: none of them tells the row, and all rows of the table but k's are as they were.
pub record Searched (sense : Sense) (lines classes forms : List ℕ) (k l : ℕ) (old rows : List ℕ) (m : ℕ) : Type 0 where
  pub within : m ≤ lines_in lines
  pub long : length rows ≡ length old
  pub others : OthersKept k old rows
  pub sought : (s : List ℕ) (t : ℕ) → StageGiven sense s t lines classes → RowSought sense s t k old forms → RowSought sense s t k rows forms
  pub none : (s : List ℕ) (t : ℕ) → StageGiven sense s t lines classes → RowSought sense s t k old forms → (x : ℕ) → x < m → TellsNone sense s t k l x

-- The table with another row k, whose own count is not 1, tells as much of the earlier kinds.
sought_kept : {sense : Sense} {s : List ℕ} {t k : ℕ} {rows new forms : List ℕ} → Accepted s → OthersKept k rows new → ¬ (row_in new k k ≡ 1) → RowSought sense s t k rows forms → RowSought sense s t k new forms
sought_kept {sense} {s} {t} {k} {rows} {new} ok o n K =
    let E = K.earlier_set in
    record {
      earlier_set = record {
        is_reached = E.is_reached;
        rows_known = λ j h e. o j (λ z. earlier_not (card_of s) (certified s ok) k (rw z at e)) ∙ E.rows_known j h e;
        forms_known = E.forms_known;
        atoms = λ j h one. go j one (ℕ_discrete j k) (E.atoms j h);
        atoms_earlier = λ j h one. early j one (ℕ_discrete j k) (E.atoms_earlier j h);
      };
      own_forms = K.own_forms;
    }
  where
    go : (j : ℕ) → row_in new j j ≡ 1 → Dec (j ≡ k) → (row_in rows j j ≡ 1 → row_in rows j ≡ unit j) → row_in new j ≡ unit j
    go j one (yes e) f = absurd (n (rw e at one))
    go j one (no d) f = o j d ∙ f (ap (λ (g : Field). g j) (sym (o j d)) ∙ one)

    early : (j : ℕ) → row_in new j j ≡ 1 → Dec (j ≡ k) → (row_in rows j j ≡ 1 → Earlier (card_of s) j k) → Earlier (card_of s) j k
    early j one (yes e) f = absurd (n (rw e at one))
    early j one (no d) f = f (ap (λ (g : Field). g j) (sym (o j d)) ∙ one)

module _ {sense : Sense} {lines classes forms : List ℕ} {k l : ℕ} {old rows : List ℕ} {m : ℕ} (H : Searched sense lines classes forms k l old rows m) (lw : LowersKind lines k l) (hm : m < lines_in lines) where
  -- Line m does not suit.
  pub searched_skip : (Suits lines classes rows l m → ⊥) → Searched sense lines classes forms k l old rows (m + 1)
  searched_skip n =
      record {
        within = omega arith;
        long = H.long;
        others = H.others;
        sought = H.sought;
        none = λ s t G K. below_more _ _ (H.none s t G K) (none_suited G (H.sought s t G K) lw n);
      }

  -- Line m suits, and tells the candidate with l.
  module _ (S : Suits lines classes rows l m) {found : Bool} {counts : List ℕ} (I : IsCandidate (row_in forms l) (row_in forms m) (kind_in lines m) found counts) where
    only_told : {s : List ℕ} {t : ℕ} (G : StageGiven sense s t lines classes) → RowSought sense s t k old forms → LowersAt s m → Earlier (card_of s) (line_kind s m) k → (b : Field)
        → ToldAt sense (card_of s) t (line_of s l) (line_of s m) b → (found ≡ true) × (b ≡ at counts)
    only_told {s} {t} G K w e b q =
        let now = H.sought s t G K in
        let told = (told_is G now lw m w e b).1 q in
        I.only b (product_narrow G now lw b (suits_product G now lw hm S b told)) told

    -- There is none.
    pub searched_unfound : found ≡ false → Searched sense lines classes forms k l old rows (m + 1)
    searched_unfound e =
        record {
          within = omega arith;
          long = H.long;
          others = H.others;
          sought = H.sought;
          none = λ s t G K. below_more _ _ (H.none s t G K) (λ w _ i _ b q _. not_both e (only_told G K w i b q).0);
        }

    -- It is set in the table.
    module _ (yes_found : found ≡ true) (wide : length counts ≡ most_kinds) (room : k * most_kinds + most_kinds ≤ length rows) {new : List ℕ} (e : new ≡ with_row rows k counts) where
      row_is : row_in new k ≡ at counts
      row_is = rw e (with_row_is rows counts k wide room)

      kept : OthersKept k rows new
      kept i d = rw e (with_others rows counts k wide room i d)

      row_told : ToldIn lines forms l m (row_in new k)
      row_told = rw row_is (I.gives yes_found)

      module _ {s : List ℕ} {t : ℕ} (G : StageGiven sense s t lines classes) (K : RowSought sense s t k old forms) where
        product : Product sense (card_of s) t k (row_in new k)
        product = suits_product G (H.sought s t G K) lw hm S (row_in new k) row_told

        now_sought : RowSought sense s t k new forms
        now_sought = sought_kept G.accepted kept (λ one. earlier_not (card_of s) (certified s G.accepted) k (product.before k (omega arith)).1) (H.sought s t G K)

        passes_row : Passes sense lines new forms classes k ↔ (stage_row_in sense (card_of s) (suc t) k ≡ row_in new k)
        passes_row = passes_iff G now_sought product (suits_form G (H.sought s t G K) lw hm S (row_in new k) row_told)

      -- It does not pass.
      pub searched_failed : length new ≡ length rows → (Passes sense lines new forms classes k → ⊥) → Searched sense lines classes forms k l old new (m + 1)
      searched_failed same n =
          record {
            within = omega arith;
            long = same ∙ H.long;
            others = λ i d. kept i d ∙ H.others i d;
            sought = λ s t G K. now_sought G K;
            none = λ s t G K. below_more _ _ (H.none s t G K) (λ w _ i _ b q r. n ((passes_row G K).1 (r ∙ (only_told G K w i b q).1 ∙ sym row_is)));
          }

      -- It passes.
      pub searched_passed : OthersKept k old new
      searched_passed i d = kept i d ∙ H.others i d

      pub searched_row : Passes sense lines new forms classes k → (s : List ℕ) (t : ℕ) → StageGiven sense s t lines classes → RowSought sense s t k old forms → row_in new k ≡ stage_row_in sense (card_of s) (suc t) k
      searched_row p s t G K = sym ((passes_row G K).0 p)

-- All lines are tried, and the kind is set as its own row.
module _ {sense : Sense} {lines classes forms : List ℕ} {k l : ℕ} {old rows : List ℕ} {m : ℕ} (H : Searched sense lines classes forms k l old rows m) (lw : LowersKind lines k l) (all : lines_in lines ≤ m)
    {new : List ℕ} (set : RowSet (unit k) k rows new) where
  pub searched_all : OthersKept k old new
  searched_all i d = set.others i d ∙ H.others i d

  pub searched_atom : (s : List ℕ) (t : ℕ) → StageGiven sense s t lines classes → RowSought sense s t k old forms → row_in new k ≡ stage_row_in sense (card_of s) (suc t) k
  searched_atom s t G K =
      let now = H.sought s t G K in
      set.here
      ∙ sym (no_line_tells sense s G.accepted t k K.earlier_set.is_reached l (ll G now lw) (lk G now lw) (λ x. λ w. H.none s t G K x (omega (arith, w.0, G.lines_are.long)) w))
