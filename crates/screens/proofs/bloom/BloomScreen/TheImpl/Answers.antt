use Rattle.screens.proofs.Listed.{added_says, kept_says}
use Rattle.screens.proofs.bloom.BloomScreen.TheImpl.Goals as goal

pub add-tells : goal.add-tells
add-tells c = record { ready = tt; added = added_says _ _ _ c.ensures.bits; kept = kept_says _ _ _ c.ensures.bits }
