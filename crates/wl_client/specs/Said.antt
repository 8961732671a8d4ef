-- What the code's values say: an event is what an object says, and a global of the code is one of the standard.
use Rattle.wl_proto.specs.declared.event.Event.{Event}
use Rattle.wl_proto.specs.Messages.{event_message}
use Rattle.wl_client.specs.declared.globals.Global.{Global as Kept}
use Rattle.spec_desktop.specs.Objects.{Global, global}
use Rattle.spec_desktop.specs.Told.{Said, said}

abbrev pub said_of : Event → Said
said_of event = said event.object (event_message event.body)

abbrev pub global_of : Kept → Global
global_of kept = global kept.name kept.interface kept.text.now kept.version
