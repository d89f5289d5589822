use Rattle.std.proofs.Common.{inl, inr}
use Rattle.hls_tool.proofs.deliver.tell_memory.Goals as goal

-- src/deliver.rt:80:1
pub returns-in-Ok-clause-tells : goal.returns-in-Ok-clause-tells
returns-in-Ok-clause-tells g c = inl c.in-Ok.ensures.ok

-- src/deliver.rt:80:1
pub returns-in-Err-clause-tells : goal.returns-in-Err-clause-tells
returns-in-Err-clause-tells g c = inr (c.in-Err.field-0.written, c.in-Err.ensures.cause.failed, c.in-Err.ensures.prefix)
