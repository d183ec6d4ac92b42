-- One token of the kind is written over its row.
use Prim.Native.Nat.{◌+◌, ◌*◌, ◌≤◌}
use mathlib.Core.Path.{◌≡◌, ◌∙◌}
use native.Mathlib.Omega.{arith}
use lib.ListN.{length}
use Rattle.tables.proofs.Stores.{with_row_is, with_others}
use borrow.Author.Rules.{rules}
use Rattle.rows.proofs.row.set_atom.Goals as goal

pub returns : goal.returns
returns c =
    let rows = c.args.rows.now in
    let kind = c.args.kind in
    let token = c.one_token-token.result in
    let long : length token ≡ 32 = search (rules, c.one_token-token.type_inv) in
    let room : kind * 32 + 32 ≤ length rows = omega (arith, c.requires.0, c.requires.1) in
    record { here = rw c.set_row.ensures (with_row_is rows token kind long room) ∙ c.one_token-token.ensures; others = λ i d. rw c.set_row.ensures (with_others rows token kind long room i d) }
