use Rattle.std.proofs.Common.{◌++◌, ap, sym, codes, decimal}
use Rattle.cast_record.proofs.WrittenLemmas.{going_start, going_again, going_more, going_breaks, going_last}
use Rattle.cast_live.proofs.summary.write_end.Goals as goal

pub returns-in_err-write_bytes : goal.returns-in_err-write_bytes
returns-in_err-write_bytes g c = going_breaks _ _ c.from_residual.result c.from_residual.ensures.1 (going_start c.requires) c.in_err-write_bytes.ensures

pub returns-in_err-write_number : goal.returns-in_err-write_number
returns-in_err-write_number g c = going_breaks _ _ c.from_residual-in_err-write_number.result c.from_residual-in_err-write_number.ensures.1 (going_more (going_start c.requires) c.in_ok-write_bytes.ensures) c.in_err-write_number.ensures

pub returns-in_err-write_bytes-2 : goal.returns-in_err-write_bytes-2
returns-in_err-write_bytes-2 g c = going_breaks _ _ c.from_residual-in_err-write_bytes-2.result c.from_residual-in_err-write_bytes-2.ensures.1 (going_more (going_more (going_start c.requires) c.in_ok-write_bytes.ensures) c.in_ok-write_number.ensures) c.in_err-write_bytes-2.ensures

pub returns : goal.returns
returns g c =
    let named = ap (λ name. codes "node " ++ (decimal c.args.node ++ (codes " " ++ name))) (sym c.end_name.ensures) in
    going_last _ _ c.write_bytes-3.result
    (going_more (going_more (going_more (going_again (going_start c.requires) named) c.in_ok-write_bytes.ensures) c.in_ok-write_number.ensures) c.in_ok-write_bytes-2.ensures) c.write_bytes-3.ensures
