mod Taken
