-- `tune_text::lines::put_coordinate` meets its contract. The digits are sixteen, and those of the bits. Assumes nothing.
use Rattle.std.proofs.Common.{◌≡◌, arith, append_assoc}
use Rattle.tune_text.proofs.Laws.Coordinates.{sixteen}
use Rattle.tune_text.proofs.lines.put_coordinate.Goals as goal

pub returns : goal.returns
returns c =
    let k : c.hex-k.result ≡ 16 = sixteen c.bits_of.result c.hex-k.result (omega arith) c.hex-k.ensures.len in
    rw (c.put-2.ensures, c.put.ensures, c.hex-k.ensures.digits, k, c.bits_of.ensures, append_assoc)
