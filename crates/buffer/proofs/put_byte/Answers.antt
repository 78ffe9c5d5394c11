-- `buffer::put_byte` meets its contract: one store.
use Rattle.buffer.proofs.Theory.Writes.{stored}
use Rattle.buffer.proofs.put_byte.Goals as goal

pub returns : goal.returns
returns c = stored _
