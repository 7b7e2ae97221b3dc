-- What the calls on a driver share: a reply, and a driver with another lifecycle.
use Rattle.head_life.specs.declared.HeadLifecycle.{HeadLifecycle}
use Rattle.head_driver.specs.declared.Answer.{Answer}
use Rattle.head_driver.specs.declared.Driver.{Driver}
use Rattle.head_driver.specs.declared.Reply.{Reply}

-- a reply
abbrev pub reply_of : Driver → Answer → Reply
reply_of d answer = record { driver = d; answer = answer }

-- the driver with another lifecycle, its waiters as they were
unfoldable pub with_life : Driver → HeadLifecycle → Driver
with_life d l = record { life = l; waiters = d.waiters }
