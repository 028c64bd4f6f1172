use Rattle.fields.specs.declared.place.Place.TheVariants.{SourceAddress, DestinationAddress, SourcePort, DestinationPort, Protocol}
use Rattle.places.specs.Each.{each}
use Rattle.places.proofs.Parents.{asked}
use Rattle.places.proofs.five.FiveFront.parent.Goals as goal

pub returns-in-SourceAddress : goal.returns-in-SourceAddress
unfolding each
returns-in-SourceAddress g c = asked _ _ _ _ _ _ _ _ _ _ _ SourceAddress c.in-SourceAddress.is c.parent.ensures

pub returns-in-DestinationAddress : goal.returns-in-DestinationAddress
unfolding each
returns-in-DestinationAddress g c = asked _ _ _ _ _ _ _ _ _ _ _ DestinationAddress c.in-DestinationAddress.is c.parent-in-DestinationAddress.ensures

pub returns-in-SourcePort : goal.returns-in-SourcePort
unfolding each
returns-in-SourcePort g c = asked _ _ _ _ _ _ _ _ _ _ _ SourcePort c.in-SourcePort.is c.parent-in-SourcePort.ensures

pub returns-in-DestinationPort : goal.returns-in-DestinationPort
unfolding each
returns-in-DestinationPort g c = asked _ _ _ _ _ _ _ _ _ _ _ DestinationPort c.in-DestinationPort.is c.parent-in-DestinationPort.ensures

pub returns-in-Protocol : goal.returns-in-Protocol
unfolding each
returns-in-Protocol g c = asked _ _ _ _ _ _ _ _ _ _ _ Protocol c.in-Protocol.is c.parent-in-Protocol.ensures
