-- Private: used only by private functions of this crate.
use Rattle.media.specs.declared.Stream as code
use Rattle.ipbcp.specs.declared.MessageType.{MessageType}
use Rattle.ipbcp.specs.declared.MessageType.TheVariants.{Request, Accepted, Confused, Rejected}
use Rattle.ipbcp.specs.declared.Body.{Body}
use Rattle.ipbcp.specs.declared.Body.TheVariants as body

-- the body of a message of this type
abbrev pub body_of : MessageType → code.Stream → Body
body_of Request s = body.Request s
body_of Accepted s = body.Accepted s
body_of Confused s = body.Confused
body_of Rejected s = body.Rejected
