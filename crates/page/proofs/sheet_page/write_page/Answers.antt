-- `write_page`: the page is put into an array, and copied where there is room.
use mathlib.Core.Path.{sym}
use native.Mathlib.Omega.{arith}
use lib.Seq.{length-take-le}
use Rattle.page.proofs.Pages.{answers_short, answers_written}
use Rattle.page.proofs.sheet_page.write_page.Goals as goal

pub returns-then-out-end : goal.returns-then-out-end
returns-then-out-end c =
    let short = answers_short c.args.sheet.now c.args.out.now c.input_part.ensures c.put_page-end.ensures (omega arith) in
    record { result_value = short.0; out_after = short.1 }

pub slice_bounds-put_bytes-end : goal.slice_bounds-put_bytes-end
slice_bounds-put_bytes-end c =
    let put = c.put_page-end in
    sym (length-take-le put.result put.new.out (omega (arith, put.ensures.ends, put.ensures.size, put.ensures.within)))

pub put_bytes-length-requires : goal.put_bytes-length-requires
put_bytes-length-requires c =
    let put = c.put_page-end in
    omega (arith, length-take-le put.result put.new.out (omega (arith, put.ensures.ends, put.ensures.size, put.ensures.within)))

pub returns : goal.returns
returns c =
    let input-part = c.input_part in
    let put-page = c.put_page-end in
    let copied = answers_written c.args.sheet.now c.args.out.now input-part.ensures put-page.ensures (omega arith) c.put_bytes-length.ensures in
    record { result_value = copied.0; out_after = copied.1 }
