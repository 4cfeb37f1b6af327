-- Replies that are compared with others.
use Rattle.std.specs.Prelude.{◌≡◌, ◌≢◌, Bool, true, false, List}
use Rattle.asked_service.specs.kernel_model.declared.reply.Reply.{Reply}

-- they are these, or they are others
abbrev pub Compares : List Reply → List Reply → Bool → Type 0
Compares own said true = own ≡ said
Compares own said false = own ≢ said
