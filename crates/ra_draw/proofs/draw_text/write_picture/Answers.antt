use Rattle.ra_draw.proofs.draw_text.write_picture.Goals as goal

pub picture_of-requires : goal.picture_of-requires
picture_of-requires g c = c.requires
