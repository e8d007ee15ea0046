use Rattle.std.proofs.Common.{refl}
use Rattle.un_text.proofs.Putting.{puts_three, puts_pending}
use Rattle.usbnet_run.proofs.decode.put_frame.Goals as goal

pub returns : goal.returns
returns g c =
    puts_three _ _ _ _ _ _ _ _ _ _ _ _ _ _ _ (puts_pending _ _ _ _ _ c.reserve.new.self _ _ refl c.push_frame_head.ensures c.reserve.ensures.put) c.put_hex.ensures c.put.ensures
