use Rattle.locks.proofs.scripted.ScriptedLockLock.TheImpl.Goals as goal

pub work-tells : goal.work-tells
work-tells g c = record {
  kept = c.ensures.kept;
  worked = c.ensures.worked;
  itself = (c.ensures.port, c.ensures.worked, c.ensures.named, c.ensures.drawn, c.ensures.refused);
}
