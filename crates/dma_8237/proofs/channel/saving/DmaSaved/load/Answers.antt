use Rattle.std.proofs.Common.{refl}
use Rattle.dma_8237.proofs.channel.saving.DmaSaved.load.Goals as goal

pub returns-clause-gives : goal.returns-clause-gives
returns-clause-gives c value rest fits left =
    let base_address = c.load-base_address.ensures.gives value.base_address _ fits left in
    let address = c.load-address.ensures.gives value.address _ fits base_address.1 in
    let base_count = c.load-base_count.ensures.gives value.base_count _ fits address.1 in
    let count = c.load-count.ensures.gives value.count _ fits base_count.1 in
    let high_byte_next = c.load-high_byte_next.ensures.gives value.high_byte_next _ fits count.1 in
    let command = c.load-command.ensures.gives value.command _ fits high_byte_next.1 in
    let mode = c.load-mode.ensures.gives value.mode _ fits command.1 in
    let masked = c.load-masked.ensures.gives value.masked _ fits mode.1 in
    let terminal_count = c.load-terminal_count.ensures.gives value.terminal_count _ fits masked.1 in
    let page = c.load-page.ensures.gives value.page rest fits terminal_count.1 in (
      rw (base_address.0, address.0, base_count.0, count.0, high_byte_next.0, command.0, mode.0, masked.0, terminal_count.0, page.0) refl,
      page.1,
    )
