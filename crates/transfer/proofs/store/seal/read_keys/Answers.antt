use Rattle.std.proofs.Common.{arith}
use Rattle.transfer.proofs.StoredKeys.{all_more, none_unread, texts_more}
use Rattle.transfer.proofs.store.seal.read_keys.Goals as goal

pub unreachable-requires : goal.unreachable-requires
unreachable-requires c =
    none_unread c.args.texts.now c.loop-text.text-index c.text-item.result c.as_slice.result.now c.requires (omega arith) c.text-item.is c.as_slice.ensures (c.opened_key.ensures.none c.in-None.is)

pub loop-text-preserved : goal.loop-text-preserved
loop-text-preserved c = record {
  read = texts_more c.args.texts.now c.loop-text.text-index c.text-item.result c.as_slice.result.now c.loop-text.keys _ c.in-Some.key (omega arith) c.text-item.is c.as_slice.ensures c.in-Some.ensures.some.1
      c.in_ok-push-in-Some.ensures.ok c.loop-text.invariant.read;
  are = all_more c.loop-text.keys _ c.in-Some.key c.in_ok-push-in-Some.ensures.ok c.loop-text.invariant.are c.in-Some.ensures.some.0;
}
