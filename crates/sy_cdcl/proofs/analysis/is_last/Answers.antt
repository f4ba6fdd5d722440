use Rattle.std.proofs.Common.{◌≡◌, length, rules}
use Rattle.sy_cdcl.proofs.analysis.is_last.Goals as goal

pub is_last_hit-requires : goal.is_last_hit-requires
is_last_hit-requires c = rw c.deref.ensures.value c.requires

pub returns : goal.returns
returns c =
    let levels : c.len.result ≡ length c.args.trail.now.starts.items = search rules in
    rw (c.deref.ensures.value, levels) at c.is_last_hit.ensures
