use Rattle.law_desktop.proofs.PointerAside.Frames.{frames-apart}
use Rattle.law_desktop.proofs.pointed.frames_apart.Goals as goal

pub returns : goal.returns
returns c = frames-apart
