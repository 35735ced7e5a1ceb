use Rattle.remaster.proofs.SectorLists.{content_more}
use Rattle.remaster.proofs.sectors.copy_content.Goals as goal

pub loop-i-preserved : goal.loop-i-preserved
loop-i-preserved c =
    content_more c.args.words.now c.args.place c.loop-i.i c.loop-i.bytes.items c.push.new.self.items c.content_byte.result c.in_ok-push.ensures.items c.loop-i.invariant c.content_byte.ensures
