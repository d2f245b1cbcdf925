use Rattle.session_options.proofs.NoLines.{fits_line}
use Rattle.passphrase_talk.proofs.options.option_line.Goals as goal

pub joined_line-requires : goal.joined_line-requires
joined_line-requires c =
    let fits = fits_line c.args.word.now c.args.value.now c.requires.short c.requires.word c.requires.value in
    record { short = fits.0; whole = fits.1 }
